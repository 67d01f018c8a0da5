-- Each call has its line.
use Rattle.std.proofs.Common.{ℕ, List, [], refl, arith}
use Rattle.std.specs.List.{slice_index_or}
use Rattle.hosting.specs.Conversing.{lines_of}
use Rattle.session.specs.declared.call_name.CallName.TheVariants.{Open, Edit, Paint, Close, Text, Colours, Size, Screen, Script, Range, Same, Place, Spot, Partner}
use Rattle.scene.specs.Help.{TellsEveryCall}
use Rattle.scene.specs.declared.help.TheConstants.{CALLS}

abbrev line : ℕ → List ℕ
line k = slice_index_or (lines_of CALLS.now) k []

pub calls_told : TellsEveryCall CALLS.now
calls_told Open = (2, line 2, omega arith, refl, refl)
calls_told Edit = (3, line 3, omega arith, refl, refl)
calls_told Paint = (4, line 4, omega arith, refl, refl)
calls_told Close = (5, line 5, omega arith, refl, refl)
calls_told Script = (6, line 6, omega arith, refl, refl)
calls_told Text = (7, line 7, omega arith, refl, refl)
calls_told Colours = (8, line 8, omega arith, refl, refl)
calls_told Size = (9, line 9, omega arith, refl, refl)
calls_told Range = (10, line 10, omega arith, refl, refl)
calls_told Same = (11, line 11, omega arith, refl, refl)
calls_told Place = (12, line 12, omega arith, refl, refl)
calls_told Spot = (13, line 13, omega arith, refl, refl)
calls_told Partner = (14, line 14, omega arith, refl, refl)
calls_told Screen = (15, line 15, omega arith, refl, refl)
