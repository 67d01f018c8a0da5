-- The names of the calls.
use Rattle.std.specs.Prelude.{ℕ, cond, List, Some, None, Option, codes}
use Rattle.std.specs.Str.{bytes_eq}
use Rattle.session.specs.declared.call_name.CallName.{CallName}
use Rattle.session.specs.declared.call_name.CallName.TheVariants.{Open, Edit, Paint, Close, Text, Colours, Size, Screen, Script, Range, Same, Place, Spot, Partner}

abbrev pub named : List ℕ → Option CallName
named word =
    cond (bytes_eq word (codes "open")) (Some Open)
    (cond (bytes_eq word (codes "edit")) (Some Edit)
    (cond (bytes_eq word (codes "paint")) (Some Paint)
    (cond (bytes_eq word (codes "close")) (Some Close)
    (cond (bytes_eq word (codes "text")) (Some Text)
    (cond (bytes_eq word (codes "colours")) (Some Colours)
    (cond (bytes_eq word (codes "size")) (Some Size)
    (cond (bytes_eq word (codes "screen")) (Some Screen)
    (cond (bytes_eq word (codes "script")) (Some Script)
    (cond (bytes_eq word (codes "range")) (Some Range)
    (cond (bytes_eq word (codes "same")) (Some Same)
    (cond (bytes_eq word (codes "place")) (Some Place)
    (cond (bytes_eq word (codes "spot")) (Some Spot)
    (cond (bytes_eq word (codes "partner")) (Some Partner) None)))))))))))))
