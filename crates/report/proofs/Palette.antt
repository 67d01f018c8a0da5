-- Every colour of the palette has two digits.
use Rattle.std.proofs.Common.{ℕ, ◌%◌, ◌<◌, get_or, arith}
use Rattle.std.specs.List.{AllByRecursion as All}
use Rattle.std.proofs.ByRecursion.{All-get_or}
use Rattle.report.specs.Rendered.{palette}

two_digits : All (λ n. n < 100) palette
two_digits = omega arith

pub palette_small : (class : ℕ) → get_or palette (class % 16) 0 < 100
palette_small class = All-get_or (λ n. n < 100) palette (class % 16) 0 (omega arith) two_digits
