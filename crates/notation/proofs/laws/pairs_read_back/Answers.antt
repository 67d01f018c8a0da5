use Rattle.notation.specs.Digits.{lower_digit, upper_digit}
use Rattle.notation.proofs.ReadBack.{pairs_read_back, lower_value, upper_value}
use Rattle.notation.proofs.laws.pairs_read_back.Goals as goal

pub returns : goal.returns
returns c = record { in_small = pairs_read_back lower_digit lower_value; in_capitals = pairs_read_back upper_digit upper_value }
