use Rattle.tree.proofs.chunk_tree.ChunkTree.part.Goals as goal

pub returns-clause-keeps : goal.returns-clause-keeps
returns-clause-keeps g c μ k = c.narrowed.ensures.keeps μ (c.tree-whole.ensures.keeps μ k)
