-- A range of places: what it takes of a text, and the same places counted from further on.
use Rattle.std.specs.Prelude.{ℕ, ◌-◌, List}
use Rattle.std.specs.List.{between}
use Rattle.questions.specs.declared.span.Span.{Span}

abbrev pub within : Span → List ℕ → List ℕ
within s text = between s.from s.to text

abbrev pub behind : ℕ → Span → Span
behind n s = record { from = s.from - n; to = s.to - n }
