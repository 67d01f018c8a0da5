-- What the layers share: the count that a layer may have, and the bytes by which layers begin and end.
-- A layer holds the grammar below it, of n states, and keeps that grammar's states as its own first n.
use Rattle.std.specs.Prelude.{ℕ, Bool, cond, ◌&&◌, ◌==◌, nat_le, nat_lt, Option, Some, None}
use Rattle.automaton.specs.Automaton.{Automaton}

-- A layer that would need more than 64 states has none, so that it cannot be used.
abbrev pub fitted : ℕ → ℕ
fitted n = cond (nat_le n 64) n 0

-- What a number stands for among n states; nothing, where it is none of them.
abbrev pub state_among : {S : Type 0} → ℕ → (ℕ → S) → ℕ → Option S
state_among n meaning s = cond (nat_lt s n) (Some (meaning s)) None

-- Each begin byte stands here and nowhere else in the definitions.
abbrev pub comment_begin : ℕ
comment_begin = 0x23

abbrev pub quote : ℕ
quote = 0x22

abbrev pub region_border : ℕ
region_border = 0x60

-- The byte behind a backslash in a string is taken as it is.
abbrev pub backslash : ℕ
backslash = 0x5C

-- Comments and strings end at the end of their line at the latest.
abbrev pub line_feed : ℕ
line_feed = 0x0A

-- A begin byte begins its layer where it is read from an open state of G.
abbrev pub begins : ℕ → Automaton → ℕ → ℕ → Bool
begins begin G s b = b == begin && G.is_open s
