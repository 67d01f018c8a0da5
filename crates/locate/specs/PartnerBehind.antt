-- Going back from a closing to its partner: the search keeps the depth, and sees each byte with the state before it.
-- The walk is traced through as many bytes as a reading tells of. Behind more it is lost, and there the search stops.
use Rattle.std.specs.Prelude.{ℕ, ◌+◌, cond, Some, None, Option, nat_lt}
use Rattle.automaton.specs.Automaton.{Automaton}
use Rattle.automaton.specs.Bracket.{role}
use Rattle.measure.specs.Bounded.{longest}
use Rattle.locate.specs.Depth.{depth_behind}
use Rattle.locate.specs.declared.traced.Traced.{Traced}

abbrev pub traced : ℕ → ℕ → Traced
traced read state = record { read = read; state = state }

abbrev pub trace_on : Automaton → Option Traced → ℕ → Option Traced
trace_on a None b = None
trace_on a (Some w) b = cond (nat_lt w.read longest) (Some (traced (w.read + 1) (a.step w.state b))) None

abbrev pub behind_on : Automaton → Option Traced → ℕ → ℕ → Option ℕ
behind_on a None b depth = None
behind_on a (Some w) b depth = depth_behind (role a w.state b) depth
