-- Scene words is lawful.
use Rattle.std.proofs.Common.{ℕ, ◌<◌, true, arith}
use Rattle.std.proofs.lemmas.Bool.Decides.{nat_tests}
use Rattle.automaton.specs.Automaton.{Lawful}
use Rattle.automaton.specs.Words.{words, words_step, words_class, byte_kind}
use Rattle.automaton.specs.declared.byte_kind.ByteKind.{ByteKind}
use Rattle.automaton.specs.declared.byte_kind.ByteKind.TheVariants.{Blank, Letter, Digit, Point, Other}
use Rattle.automaton.proofs.Lawful.{automaton_lawful}

step_small : (s : ℕ) (k : ByteKind) → words_step s k < 3
step_small s Blank = omega arith
step_small s Letter = omega arith
step_small s Digit = grind (arith, nat_tests)
step_small s Point = grind (arith, nat_tests)
step_small s Other = omega arith

class_small : (s : ℕ) (k : ByteKind) → words_class s k < 16
class_small s Blank = omega arith
class_small s Letter = omega arith
class_small s Digit = grind (arith, nat_tests)
class_small s Point = grind (arith, nat_tests)
class_small s Other = omega arith

pub words_lawful : Lawful words
words_lawful = automaton_lawful 3 _ _ (λ s. true) (omega arith) (λ s b h. step_small s (byte_kind b)) (λ s b. class_small s (byte_kind b))
