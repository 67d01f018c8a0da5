use Rattle.std.proofs.Common.{arith}
use Rattle.std.proofs.lemmas.Grind.{common_steps}
use Rattle.load.proofs.room.Room.new.Goals as goal

-- A clone of what has no reading is the same.
pub returns : goal.returns
returns c = record {
  slots_are = c.in_ok-vec.ensures.items_if_clones_equal (λ y e. grind (arith, common_steps));
  store_is = c.in_ok-vec-2.ensures.items_if_clones_equal (λ y e. e);
  readings_are = c.in_ok-vec-3.ensures.items_if_clones_equal (λ y e. grind (arith, common_steps));
}
