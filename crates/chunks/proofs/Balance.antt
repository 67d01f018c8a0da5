-- How high a balanced tree can be: a tree of a height has at least so many slots.
use Rattle.std.proofs.Common.{◌≡◌, ℕ, zero, suc, ◌+◌, ◌≤◌, max, ◌∷◌, length, ap, ⊎_elim, le_refl, arith, length-append}
use native.Mathlib.Decide.{le_ind}
use Rattle.std.proofs.lemmas.Bool.{cases_lt}
use Rattle.chunks.specs.Tree.{Tree, leaf, node, slots, height, Balanced, least}

least_suc : (h : ℕ) → least h ≤ least (suc h)
least_suc zero = omega arith
least_suc (suc h) = omega arith

least_grows : (h k : ℕ) → h ≤ k → least h ≤ least k
least_grows h k = le_ind (λ m. least h ≤ least m) (le_refl _) (λ m _ e. omega (arith, least_suc m)) k

-- One slot over two trees, of which the lower has at least one less than the higher.
least_over : (h k : ℕ) → h ≤ suc k → least (suc h) ≤ suc (least h + least k)
least_over zero k e = omega arith
least_over (suc h) k e = let below : h ≤ k = omega arith in omega (arith, least_grows h k below)

-- A balanced tree has at least the least number of slots of its height.
pub least_slots : (t : Tree) → Balanced t → least (height t) ≤ length (slots t)
least_slots leaf b = omega arith
least_slots (node l i r) (level, (bl, br)) =
    let long = length-append (slots l) (i ∷ slots r) in
    let left = least_slots l bl in
    let right = least_slots r br in
    ⊎_elim
    (λ h. let top : max (height l) (height r) ≡ height r = omega arith in
    let some = ap (λ n. least (suc n)) top in
    omega (arith, least_over (height r) (height l) level.right_low))
    (λ h. let top : max (height l) (height r) ≡ height l = omega arith in
    let some = ap (λ n. least (suc n)) top in
    omega (arith, least_over (height l) (height r) level.left_low))
    (cases_lt (height l) (height r))

-- A balanced tree of up to 4,096 slots is at most 16 high.
pub low_if_balanced : (t : Tree) → Balanced t → length (slots t) ≤ 4096 → height t ≤ 16
low_if_balanced t balanced few =
    ⊎_elim (λ h. omega arith) (λ h. let z : ⊥ = omega (arith, least_grows 17 (height t) h, least_slots t balanced) in absurd z) (cases_lt (height t) 17)

-- A tree is no higher than it has slots.
pub height_slots : (t : Tree) → height t ≤ length (slots t)
height_slots leaf = omega arith
height_slots (node l i r) =
    let long = length-append (slots l) (i ∷ slots r) in
    let left = height_slots l in
    let right = height_slots r in
    omega arith
