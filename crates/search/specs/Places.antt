-- The nearest place at which a test is passed, upwards or downwards.
use Rattle.std.specs.Prelude.{ℕ, zero, suc, Bool, cond, Some, None, Option}

-- The least place that passes, of `count` places from `from` on.
abbrev pub least : (ℕ → Bool) → ℕ → ℕ → Option ℕ
least passes from zero = None
least passes from (suc count) = cond (passes from) (Some from) (least passes (suc from) count)

-- The greatest place below `bound` that passes.
abbrev pub greatest : (ℕ → Bool) → ℕ → Option ℕ
greatest passes zero = None
greatest passes (suc bound) = cond (passes bound) (Some bound) (greatest passes bound)
