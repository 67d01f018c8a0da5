-- How bytes are cut into chunks: as few chunks as can be, as even as can be, the longer ones first.
use Rattle.std.specs.Prelude.{ℕ, zero, suc, ◌+◌, ◌*◌, ◌/◌, ◌%◌, ◌≤◌, min, cond, List, [], ◌∷◌, ◌++◌, length, take, drop, nat_lt}

-- How many chunks j bytes need: j / 64, rounded up.
abbrev pub needed : ℕ → ℕ
needed j = (j + 63) / 64

-- The length of the k-th of q chunks of j bytes: the first j mod q have one byte more than the rest.
unfoldable pub share : ℕ → ℕ → ℕ → ℕ
share j q k = cond (nat_lt k (j % q)) (j / q + 1) (j / q)

-- Where that chunk begins.
unfoldable pub begin : ℕ → ℕ → ℕ → ℕ
begin j q k = k * (j / q) + min k (j % q)

-- The first n pieces of a list whose lengths are f k, f (k + 1), ..
abbrev pub pieces : (ℕ → ℕ) → ℕ → ℕ → List ℕ → List (List ℕ)
pieces f k zero bytes = []
pieces f k (suc n) bytes = take (f k) bytes ∷ pieces f (suc k) n (drop (f k) bytes)

-- The k-th of q chunks of some bytes, and the n chunks from the k-th on.
abbrev pub chunk_at : List ℕ → ℕ → ℕ → List ℕ
chunk_at bytes q k = let j = length bytes in take (share j q k) (drop (begin j q k) bytes)

abbrev pub part : List ℕ → ℕ → ℕ → ℕ → List (List ℕ)
part bytes q k n = let j = length bytes in pieces (share j q) k n (drop (begin j q k) bytes)

-- The chunks that bytes are cut into.
unfoldable pub cut : List ℕ → List (List ℕ)
cut bytes = let j = length bytes in pieces (share j (needed j)) 0 (needed j) bytes

-- The bytes of chunks, in order.
abbrev pub joined : List (List ℕ) → List ℕ
joined [] = []
joined (c ∷ cs) = c ++ joined cs

-- A chunk has 1 to 64 bytes.
pub record Chunk (bytes : List ℕ) : Type 0 where
  pub some_byte : 1 ≤ length bytes
  pub few_bytes : length bytes ≤ 64

-- A list of chunks in which those from `from` up to `to` are replaced.
abbrev pub replaced : {X : Type 0} → ℕ → ℕ → List X → List X → List X
replaced from to new chunks = take from chunks ++ (new ++ drop to chunks)
