-- What the words behind the program's name ask of a host: `[PILE] [SLOTS] [--screen N] [--store N] [--readings N]`, in any order.
use Rattle.std.specs.Prelude.{ℕ, cond, Bool, false, List, [], ◌∷◌, Some, None, Ok, Err, Option, Result, codes, is_some, ◌&&◌, nat_le}
use Rattle.std.specs.Borrow.{Bor}
use Rattle.std.specs.Str.{bytes_eq}
use Rattle.report.specs.declared.pile.Pile.{Pile}
use Rattle.report.specs.declared.pile.Pile.TheVariants.{Words, Comment, String, Region, StringComment, CommentString, CommentRegion, StringRegion, Comment4, Comment5}
use Rattle.notation.specs.Number.{number_of}
use Rattle.hosting.specs.declared.options.Misread.{Misread}
use Rattle.hosting.specs.declared.options.MisreadAt.{MisreadAt}
use Rattle.hosting.specs.declared.options.Misread.TheVariants.{UnknownPile, SecondPile, SecondSlots, NoNumber}
use Rattle.hosting.specs.declared.options.Setting.{Setting}
use Rattle.hosting.specs.declared.options.Setting.TheVariants.{Screen, Store, Readings}
use Rattle.hosting.specs.declared.options.Options.{Options}

abbrev pub setting_named : List ℕ → Option Setting
setting_named word =
    cond (bytes_eq word (codes "--screen")) (Some Screen)
    (cond (bytes_eq word (codes "--store")) (Some Store)
    (cond (bytes_eq word (codes "--readings")) (Some Readings) None))

abbrev pub pile_named : List ℕ → Option Pile
pile_named word =
    cond (bytes_eq word (codes "words")) (Some Words)
    (cond (bytes_eq word (codes "comment")) (Some Comment)
    (cond (bytes_eq word (codes "string")) (Some String)
    (cond (bytes_eq word (codes "region")) (Some Region)
    (cond (bytes_eq word (codes "string-comment")) (Some StringComment)
    (cond (bytes_eq word (codes "comment-string")) (Some CommentString)
    (cond (bytes_eq word (codes "comment-region")) (Some CommentRegion)
    (cond (bytes_eq word (codes "string-region")) (Some StringRegion)
    (cond (bytes_eq word (codes "comment4")) (Some Comment4)
    (cond (bytes_eq word (codes "comment5")) (Some Comment5) None)))))))))

-- A setting takes the word behind it, which has to be a number.
abbrev pub with_setting : Options → Setting → ℕ → Options
with_setting o Screen n = record o { screen = Some n; awaited = None }
with_setting o Store n = record o { store = Some n; awaited = None }
with_setting o Readings n = record o { readings = Some n; awaited = None }

abbrev pub set_by : Options → Setting → Option ℕ → Result Options Misread
set_by o setting None = Err NoNumber
set_by o setting (Some n) = Ok (with_setting o setting n)

-- One number of slots, and one pile.
abbrev pub slots_by : Options → Option ℕ → Result Options Misread
slots_by o None = Err NoNumber
slots_by o (Some n) = cond (is_some o.slots) (Err SecondSlots) (Ok (record o { slots = Some n }))

abbrev pub pile_by : Options → Option Pile → Result Options Misread
pile_by o None = Err UnknownPile
pile_by o (Some pile) = cond (is_some o.pile) (Err SecondPile) (Ok (record o { pile = Some pile }))

-- A word that begins with a digit is the number of slots.
abbrev pub begins_with_digit : List ℕ → Bool
begins_with_digit [] = false
begins_with_digit (b ∷ bs) = nat_le 0x30 b && nat_le b 0x39

abbrev pub begun_by : Options → List ℕ → Option Setting → Result Options Misread
begun_by o word (Some setting) = Ok (record o { awaited = Some setting })
begun_by o word None = cond (begins_with_digit word) (slots_by o (number_of word)) (pile_by o (pile_named word))

-- The options with one word more.
abbrev pub word_read : Options → List ℕ → Option Setting → Result Options Misread
word_read o word (Some setting) = set_by o setting (number_of word)
word_read o word None = begun_by o word (setting_named word)

abbrev pub no_options : Options
no_options = record { pile = None; slots = None; screen = None; store = None; readings = None; awaited = None }

-- What a word came to, and then the words behind it; the first that cannot be followed is the one that is told.
abbrev pub and_then : Bor (List ℕ) → Result Options Misread → (Options → Result Options MisreadAt) → Result Options MisreadAt
and_then word (Err misread) go = Err (record { misread = misread; word = Some word })
and_then word (Ok o) go = go o

-- The options that some words come to, behind others. A setting whose number is missing behind the last word is cut off.
abbrev pub words_read : Options → List (Bor (List ℕ)) → Result Options MisreadAt
words_read o [] = cond (is_some o.awaited) (Err (record { misread = NoNumber; word = None })) (Ok o)
words_read o (word ∷ words) = and_then word (word_read o word.now o.awaited) (λ next. words_read next words)

abbrev pub misread_text : Misread → List ℕ
misread_text UnknownPile = codes "there is no such pile"
misread_text SecondPile = codes "one pile at a time"
misread_text SecondSlots = codes "one number of slots at a time"
misread_text NoNumber = codes "a number from 0 to 4294967295 is wanted"
