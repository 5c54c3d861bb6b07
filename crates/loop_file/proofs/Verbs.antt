-- An order's words begin with the spelling of its verb, and no two verbs are spelled alike.
use Rattle.std.proofs.Common.{◌≡◌, ℕ, ◌+◌, ◌*◌, ◌≤◌, cond, eqb, List, [], ◌∷◌, length, get_or, Some, None, Option, sym, refl, ap, ◌∙◌, subst, inl, inr}
use Rattle.words.specs.Parts.{words_of}
use Rattle.loop_file.specs.declared.command.Command.{Command}
use Rattle.loop_file.specs.declared.verb.Verb.{Verb}
use Rattle.loop_file.specs.declared.verb.Verb.TheVariants.{Block, Wire, Cut, Drop, Tune, Feed, Scan, Show}
use Rattle.loop_file.specs.Orders.{Order, nothing, block, wire, cut, remove, tune, feed, scan, show, Words}
use Rattle.loop_file.specs.Lines.{order, Idle, Fits, Said}
use Rattle.loop_file.specs.Verbs.{spelled, Misses, Parsed}
use Rattle.loop_file.proofs.Spaced.{rejoined, text_words}

-- a number that tells the verbs apart
abbrev tag : List ℕ → ℕ
tag w = 2 * get_or w 0 0 + get_or w 1 0

-- the verb of a spelling
abbrev pub verb : List ℕ → Verb
verb w =
    cond (eqb (tag w) 304) Block
    (cond (eqb (tag w) 343) Wire (cond (eqb (tag w) 315) Cut (cond (eqb (tag w) 314) Drop (cond (eqb (tag w) 349) Tune (cond (eqb (tag w) 305) Feed (cond (eqb (tag w) 329) Scan Show))))))

verb_spelled : (v : Verb) → verb (spelled v) ≡ v
verb_spelled Block = refl
verb_spelled Wire = refl
verb_spelled Cut = refl
verb_spelled Drop = refl
verb_spelled Tune = refl
verb_spelled Feed = refl
verb_spelled Scan = refl
verb_spelled Show = refl

-- the first of some words
abbrev pub first : List (List ℕ) → List ℕ
first ws = get_or ws 0 []

-- an order's first word spells a verb
pub spells : (o : Order) (ws : List (List ℕ)) → Words o ws → (v : Verb) × (left : List (List ℕ)) × (ws ≡ spelled v ∷ left)
spells nothing ws h = absurd h
spells (block n k p q r) ws h = (Block, _, h.1)
spells (wire t p s) ws h = (Wire, _, h.0)
spells (cut t p) ws h = (Cut, _, h.0)
spells (remove n) ws h = (Drop, _, h.0)
spells (tune n p q r) ws h = (Tune, _, h.0)
spells (feed n z) ws h = (Feed, _, h.0)
spells (scan n) ws h = (Scan, _, h.0)
spells (show n) ws h = (Show, _, h.0)

-- words that miss the commands of their verb, by its spelling
misses : (v w : Verb) (left : List (List ℕ)) → spelled v ≡ spelled w → Misses v left → Misses w left
misses v w left e m = subst (λ u. Misses u left) (sym (verb_spelled v) ∙ ap verb e ∙ verb_spelled w) m

-- the same words, their first as another equal word
other_first : (o : Order) (left : List (List ℕ)) (v w : List ℕ) → v ≡ w → Words o (v ∷ left) → Words o (w ∷ left)
other_first o left v w e h = subst (λ u. Words o (u ∷ left)) e h

-- no order has words that miss the commands of their verb
missed : (v : Verb) (left : List (List ℕ)) → Misses v left → (o : Order) → Words o (spelled v ∷ left) → ⊥
missed v left m nothing h = h
missed v left m (block n k p q r) h = let e = ap first h.1 in misses v Block left e m n k p q r (other_first (block n k p q r) left _ _ e h)
missed v left m (wire t p s) h = let e = ap first h.0 in misses v Wire left e m t p s (other_first (wire t p s) left _ _ e h)
missed v left m (cut t p) h = let e = ap first h.0 in misses v Cut left e m t p (other_first (cut t p) left _ _ e h)
missed v left m (remove n) h = let e = ap first h.0 in misses v Drop left e m n (other_first (remove n) left _ _ e h)
missed v left m (tune n p q r) h = let e = ap first h.0 in misses v Tune left e m n p q r (other_first (tune n p q r) left _ _ e h)
missed v left m (feed n z) h = let e = ap first h.0 in misses v Feed left e m n z (other_first (feed n z) left _ _ e h)
missed v left m (scan n) h = let e = ap first h.0 in misses v Scan left e m n (other_first (scan n) left _ _ e h)
missed v left m (show n) h = let e = ap first h.0 in misses v Show left e m n (other_first (show n) left _ _ e h)

-- what a line's words are read as by their verb is what the line is read as
pub said_by_verb : (line : List ℕ) → length line ≤ 80 → (Idle line → ⊥) → (v : Verb) (left : List (List ℕ)) → words_of line ≡ spelled v ∷ left → (c : Option Command) → Parsed v left c → Said line c
said_by_verb line short busy v left e (Some c) h = (short, inr (words_of line, subst (Words (order c)) (sym e) h, sym (rejoined line)))
said_by_verb line short busy v left e None h = λ f.
    elim f.1.1 [ inl k ↦ busy k.1 | inr k ↦ missed v left h f.0 (subst (Words f.0) e (text_words f.0 k.0 line k.1 k.2)) ]

-- a line whose first word spells no verb says nothing
pub no_verb : (line : List ℕ) → (Idle line → ⊥) → ((v : Verb) → first (words_of line) ≡ spelled v → ⊥) → Fits line → ⊥
no_verb line busy un f =
    elim f.1.1 [ inl k ↦ busy k.1 | inr k ↦ (let v = spells f.0 (words_of line) (text_words f.0 k.0 line k.1 k.2) in un v.0 (ap first v.2)) ]
