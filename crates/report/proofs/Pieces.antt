-- What is left to write where the text or its cells end.
use Rattle.std.proofs.Common.{◌≡◌, ℕ, List, [], ◌∷◌, refl, ap, ◌∙◌, ◌⊎◌, ⊎_elim}
use Rattle.report.specs.declared.view.View.{View}
use Rattle.report.specs.Rendered.{closing, rendered_from}

module _ (view : View) (last : ℕ) where
  no_cells : (text : List ℕ) → rendered_from view last text [] ≡ closing view
  no_cells [] = refl
  no_cells (b ∷ bs) = refl

  pub rendered_end : (text cells : List ℕ) → (text ≡ []) ⊎ (cells ≡ []) → rendered_from view last text cells ≡ closing view
  rendered_end text cells ends =
      ⊎_elim (λ none. ap (λ l. rendered_from view last l cells) none) (λ none. ap (rendered_from view last text) none ∙ no_cells text) ends
