mod Piecewise
