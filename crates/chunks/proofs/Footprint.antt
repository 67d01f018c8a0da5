-- The laws of counting slots.
use Rattle.std.proofs.Common.{◌≡◌, ℕ, zero, suc, ◌+◌, ◌<◌, ◌≤◌, List, [], ◌∷◌, ◌++◌, length, refl, ◌∙◌, arith}
use Rattle.std.proofs.lemmas.Bool.Decides.{nat_tests}
use Rattle.chunks.specs.Tree.{Tree, node, slots}
use Rattle.chunks.specs.Footprint.{one, count, uses, below}

pub one_same : (i : ℕ) → one i i ≡ 1
one_same i = grind (arith, nat_tests)

pub one_other : (i j : ℕ) → one i j ≡ 0 → i ≡ j → ⊥
one_other i j = grind (arith, nat_tests)

pub count_append : (xs ys : List ℕ) (j : ℕ) → count (xs ++ ys) j ≡ count xs j + count ys j
count_append [] ys j = omega arith
count_append (x ∷ xs) ys j = omega (arith, count_append xs ys j)

pub uses_node : (l : Tree) (i : ℕ) (r : Tree) (j : ℕ) → uses (node l i r) j ≡ uses l j + (one i j + uses r j)
uses_node l i r j = count_append (slots l) (i ∷ slots r) j

-- How many of the numbers below n stand in a list, each as often as it stands there.
tally : ℕ → List ℕ → ℕ
tally zero xs = 0
tally (suc n) xs = count xs n + tally n xs

tally_none : (n : ℕ) → tally n [] ≡ 0
unfolding tally
tally_none zero = refl
tally_none (suc n) = omega (arith, tally_none n)

tally_more : (n x : ℕ) (xs : List ℕ) → tally n (x ∷ xs) ≡ below n x + tally n xs
unfolding tally
tally_more zero x xs = grind (arith, nat_tests)
tally_more (suc n) x xs = let before = tally_more n x xs in grind (arith, nat_tests)

tally_length : (n : ℕ) (xs : List ℕ) → ((j : ℕ) → count xs j ≤ below n j) → tally n xs ≡ length xs
tally_length n [] h = tally_none n
tally_length n (x ∷ xs) h =
    let here : below n x ≡ 1 = grind (arith, nat_tests, h x, one_same x) in
    omega (arith, tally_more n x xs, tally_length n xs (λ j. omega (arith, h j)))

tally_few : (n : ℕ) (xs : List ℕ) → ((j : ℕ) → count xs j ≤ 1) → tally n xs ≤ n
unfolding tally
tally_few zero xs h = omega arith
tally_few (suc n) xs h = omega (arith, h n, tally_few n xs h)

tally_all : (n : ℕ) (xs : List ℕ) → ((j : ℕ) → j < n → count xs j ≡ 1) → tally n xs ≡ n
unfolding tally
tally_all zero xs h = refl
tally_all (suc n) xs h = let here = h n (omega arith) in omega (arith, tally_all n xs (λ j e. h j (omega arith)))

pub below_few : (n j : ℕ) → below n j ≤ 1
below_few n j = grind (arith, nat_tests)

pub below_one : (n j : ℕ) → j < n → below n j ≡ 1
below_one n j h = grind (arith, nat_tests)

-- As many different numbers below n as there are at most, n.
pub few_below : (n : ℕ) (xs : List ℕ) → ((j : ℕ) → count xs j ≤ below n j) → length xs ≤ n
few_below n xs h = omega (arith, tally_length n xs h, tally_few n xs (λ j. omega (arith, h j, below_few n j)))

-- Every number below n once: n of them.
pub all_below : (n : ℕ) (xs : List ℕ) → ((j : ℕ) → count xs j ≡ below n j) → length xs ≡ n
all_below n xs h = omega (arith, tally_length n xs (λ j. omega (arith, h j)), tally_all n xs (λ j e. h j ∙ below_one n j e))

pub below_known : (n j : ℕ) → 1 ≤ below n j → j < n
below_known n j = grind (arith, nat_tests)

-- What stands in a list of numbers below n is below n.
pub first_below : (n i : ℕ) (is : List ℕ) → ((j : ℕ) → count (i ∷ is) j ≤ below n j) → i < n
first_below n i is h = below_known n i (omega (arith, h i, one_same i))
