-- What a refusal carries: its number, the layer that refuses, and a place.
use Rattle.std.specs.Prelude.{ℕ}
use Rattle.model.specs.declared.refusal.Refusal.{Refusal}
use Rattle.model.specs.declared.refusal.Refusal.TheVariants.{OpenedBefore, SlotCount, LentLength, UnusableGrammar, DueStands, OutsideText, TooManyBytes, TooManyChunks, UnknownDue, ShortScreen, ShortBuffer, OutsidePlace, NoLine, NoBracket, OutsidePart}
use Rattle.model.specs.declared.refusal.Layer.{Layer}
use Rattle.model.specs.declared.refusal.Layer.TheVariants.{Tree, Document, Script}

abbrev pub number : Refusal → ℕ
number OpenedBefore = 1
number (SlotCount slots) = 2
number (LentLength count) = 3
number UnusableGrammar = 4
number (DueStands at) = 5
number (OutsideText to) = 6
number (TooManyBytes count) = 7
number (TooManyChunks chunks) = 8
number (UnknownDue at) = 9
number (ShortScreen cells) = 10
number (ShortBuffer cells) = 11
number (OutsidePlace at) = 12
number (NoLine line) = 13
number (NoBracket at) = 14
number (OutsidePart end) = 15

abbrev pub layer : Refusal → Layer
layer OpenedBefore = Document
layer (SlotCount slots) = Tree
layer (LentLength count) = Tree
layer UnusableGrammar = Document
layer (DueStands at) = Document
layer (OutsideText to) = Tree
layer (TooManyBytes count) = Tree
layer (TooManyChunks chunks) = Tree
layer (UnknownDue at) = Document
layer (ShortScreen cells) = Document
layer (ShortBuffer cells) = Document
layer (OutsidePlace at) = Document
layer (NoLine line) = Document
layer (NoBracket at) = Document
layer (OutsidePart end) = Script

abbrev pub place : Refusal → ℕ
place OpenedBefore = 0
place (SlotCount slots) = slots
place (LentLength count) = count
place UnusableGrammar = 0
place (DueStands at) = at
place (OutsideText to) = to
place (TooManyBytes count) = count
place (TooManyChunks chunks) = chunks
place (UnknownDue at) = at
place (ShortScreen cells) = cells
place (ShortBuffer cells) = cells
place (OutsidePlace at) = at
place (NoLine line) = line
place (NoBracket at) = at
place (OutsidePart end) = end
