-- A solve on its way: what is left to sweep gives the whole.
use Rattle.std.proofs.Common.{◌≡◌, ℕ, ◌+◌, ◌<◌, ◌≤◌, List, ◌∷◌, length, get_or, drop, set, Some, Option, sym, ap, ◌∙◌, add-one, length-set, drop-cons}
use mathlib.Core.Path.{fun_ext}
use Rattle.std.specs.List.{slice_get}
use Rattle.std.proofs.lemmas.List.{drop_all}
use Rattle.family.specs.Meaning.{Meaning}
use Rattle.wiring.specs.Layout.{Layout}
use Rattle.passes.specs.Rows.{put, or_else, on_some, row}
use Rattle.passes.specs.Scan.{inputs_of, output_at, swept, Solves}
use Rattle.passes.proofs.Rows.{get_or-put}

module _ {R S : Type 0} (m : Meaning R S) (l : Layout) (records : List R) (before : List S) where
  -- the row stands at `cur`, and the blocks from rank i on are left
  pub record Sweeping (cur : List S) (i : ℕ) : Type 0 where
    pub size : length cur ≡ length before
    pub left : (s : ℕ) → swept m l.source (slice_get records) (drop i l.order) (row m cur) s ≡ swept m l.source (slice_get records) l.order (row m before) s

  -- one more block, at the slot of rank i
  pub sweep_more : (cur : List S) (i slot : ℕ) (r : R) (v : S) → slot ≡ get_or l.order i 0 → i < length l.order → slot < length cur → slice_get records slot ≡ Some r
      → v ≡ m.output r (inputs_of m (row m cur) (l.source slot)) → Sweeping cur i → Sweeping (set cur slot v) (i + 1)
  sweep_more cur i slot r v at low within held is was =
      let make : R → S = λ x. m.output x (inputs_of m (row m cur) (l.source slot)) in
      let value : v ≡ output_at m l.source (slice_get records) (row m cur) slot = is ∙ sym (ap (λ (o : Option R). or_else (row m cur slot) (on_some make o)) held) in
      let stands : row m (set cur slot v) ≡ put (row m cur) slot (output_at m l.source (slice_get records) (row m cur) slot) = fun_ext (get_or-put cur slot v m.rest within) ∙ ap (put (row m cur) slot) value in
      let first : drop i l.order ≡ get_or l.order i 0 ∷ drop (i + 1) l.order = rw (add-one, drop-cons l.order i 0) in
      let rest : drop i l.order ≡ slot ∷ drop (i + 1) l.order = first ∙ ap (λ (s : ℕ). s ∷ drop (i + 1) l.order) (sym at) in
      record {
        size = length-set cur slot v ∙ was.size;
        left = λ s. ap (λ (f : ℕ → S). swept m l.source (slice_get records) (drop (i + 1) l.order) f s) stands
            ∙ sym (ap (λ (xs : List ℕ). swept m l.source (slice_get records) xs (row m cur) s) rest) ∙ was.left s;
      }

  -- no block is left
  pub sweep_all : (cur : List S) (i : ℕ) → length l.order ≤ i → Sweeping cur i → Solves m l records before cur
  sweep_all cur i high was = record {
    size = was.size;
    signals = λ s. sym (ap (λ (xs : List ℕ). swept m l.source (slice_get records) xs (row m cur) s) (drop_all i l.order high)) ∙ was.left s;
  }
