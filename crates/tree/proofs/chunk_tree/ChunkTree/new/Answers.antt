use Rattle.std.proofs.Common.{None, refl, ap}
use Rattle.slots.specs.declared.memory.Memory.{Memory}
use Rattle.slots.specs.View.{chunks_of}
use Rattle.slots.proofs.Reading.{tree_is, sound_whole}
use Rattle.slots.proofs.Preparing.{whole_none}
use Rattle.tree.proofs.chunk_tree.ChunkTree.new.Goals as goal

pub invariant_of-result : goal.invariant_of-result
invariant_of-result g c = record { sound = sound_whole (whole_none _ refl refl) }

pub returns : goal.returns
returns g c =
    let memory : Memory g.row.R.Denot = record { slots = c.args.slots; store = c.args.store; readings = c.args.readings; usable = 0; free = None } in
    record { usable = refl; chunks = ap (chunks_of memory) (tree_is (whole_none memory refl refl)); slots = refl; store = refl; readings = refl }
