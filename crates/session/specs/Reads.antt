-- What came of a reading that memory may end before.
use Rattle.std.specs.Prelude.{◌≡◌, Result, Ok, Err, ⊤}
use Rattle.session.specs.Asked.{Asked, Reading, asked}
use Rattle.session.specs.declared.request.Request.{Request}
use Rattle.session.specs.declared.unread.Unread.{Unread}
use Rattle.session.specs.declared.unread.Unread.TheVariants as unread

-- It reads what the line asks, or tells its problem; nothing is said where memory ran out.
abbrev pub Reads : Result Request Unread → Reading Asked → Type 0
Reads (Ok request) reading = Ok (asked request) ≡ reading
Reads (Err (unread.Problem problem)) reading = Err problem ≡ reading
Reads (Err (unread.Memory error)) reading = ⊤
