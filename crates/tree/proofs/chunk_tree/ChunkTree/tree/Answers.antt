use Rattle.slots.proofs.Reading.{whole_sound, held_kept}
use Rattle.slots.proofs.Replacing.{held_whole}
use Rattle.tree.proofs.chunk_tree.ChunkTree.tree.Goals as goal

pub new-requires : goal.new-requires
new-requires g c = let self = c.args.self.now in held_kept (held_whole (whole_sound self.memory self.root self.sound))
