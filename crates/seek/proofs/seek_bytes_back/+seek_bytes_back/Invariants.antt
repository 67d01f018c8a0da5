use Rattle.std.proofs.Common.{length}
use Rattle.seek.proofs.seek_bytes_back.+seek_bytes_back.Given as goal

abbrev pub decreases-seek_bytes_back : goal.decreases-seek_bytes_back
decreases-seek_bytes_back g l = length l.bytes.now
