-- The laws of the two sides.
use Rattle.std.proofs.Common.{◌≡◌, ℕ, suc, ◌+◌, max, List, ◌∷◌, Some, None, refl, ap, ◌∙◌, append_assoc, arith}
use Rattle.chunks.specs.declared.side.Side.{Side}
use Rattle.chunks.specs.declared.side.Side.TheVariants.{Left, Right}
use Rattle.chunks.specs.Tree.{Tree, leaf, node, slots, root, height}
use Rattle.chunks.specs.Footprint.{one, uses, count}
use Rattle.chunks.specs.Sides.{other, around, run}
use Rattle.chunks.proofs.Footprint.{count_append}

pub slots_around : (s : Side) (a : Tree) (i : ℕ) (b : Tree) → slots (around s a i b) ≡ run s (slots a) i (slots b)
slots_around Left a i b = refl
slots_around Right a i b = refl

pub height_around : (s : Side) (a : Tree) (i : ℕ) (b : Tree) → height (around s a i b) ≡ suc (max (height a) (height b))
height_around Left a i b = refl
height_around Right a i b = omega arith

pub count_run : (s : Side) (xs : List ℕ) (i : ℕ) (ys : List ℕ) (j : ℕ) → count (run s xs i ys) j ≡ count xs j + (one i j + count ys j)
count_run Left xs i ys j = count_append xs (i ∷ ys) j
count_run Right xs i ys j = omega (arith, count_append ys (i ∷ xs) j)

pub uses_around : (s : Side) (a : Tree) (i : ℕ) (b : Tree) (j : ℕ) → uses (around s a i b) j ≡ uses a j + (one i j + uses b j)
uses_around s a i b j = ap (λ l. count l j) (slots_around s a i b) ∙ count_run s (slots a) i (slots b) j

pub run_turned : (s : Side) (xs : List ℕ) (i : ℕ) (ys : List ℕ) → run (other s) ys i xs ≡ run s xs i ys
run_turned Left xs i ys = refl
run_turned Right xs i ys = refl

-- What a slot and its neighbour have between and around them stays in order, whichever of the two is on top.
pub run_assoc : (s : Side) (xs : List ℕ) (i : ℕ) (ys : List ℕ) (j : ℕ) (zs : List ℕ) → run s (run s xs i ys) j zs ≡ run s xs i (run s ys j zs)
run_assoc Left xs i ys j zs = simp append_assoc
run_assoc Right xs i ys j zs = simp append_assoc

pub around_turned : (s : Side) (a : Tree) (i : ℕ) (b : Tree) → around (other s) b i a ≡ around s a i b
around_turned Left a i b = refl
around_turned Right a i b = refl

pub root_around : (s : Side) (a : Tree) (i : ℕ) (b : Tree) → root (around s a i b) ≡ Some i
root_around Left a i b = refl
root_around Right a i b = refl

-- A tree with a slot on top has that slot between two sides, whichever is named first.
pub opened : (s : Side) (t : Tree) (i : ℕ) → Some i ≡ root t → (a : Tree) × ((b : Tree) × (t ≡ around s a i b))
opened s leaf i e = absurd (cc)
opened Left (node l k r) i e = (l, (r, (let same : k ≡ i = cc in ap (λ n. node l n r) same)))
opened Right (node l k r) i e = (r, (l, (let same : k ≡ i = cc in ap (λ n. node l n r) same)))

-- Where there is no slot on top there is no tree.
pub leaf_if_none : (t : Tree) → None ≡ root t → t ≡ leaf
leaf_if_none leaf e = refl
leaf_if_none (node l k r) e = absurd (cc)
