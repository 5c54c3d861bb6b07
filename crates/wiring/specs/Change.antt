-- What each accepted edit makes of a layout.
use Rattle.std.specs.Prelude.{◌≡◌, ℕ, Bool, false, cond, not, ◌&&◌, List, [], ◌∷◌, ◌++◌, Some, None, filter, Option, ◌==◌, slice_index_or}
use Rattle.wiring.specs.Layout.{Layout}

-- m is l, at every slot and port
pub record Same (m l : Layout) : Type 0 where
  pub order : m.order ≡ l.order
  pub ports : (t : ℕ) → m.ports t ≡ l.ports t
  pub late : (t p : ℕ) → m.late t p ≡ l.late t p
  pub source : (t p : ℕ) → m.source t p ≡ l.source t p

-- no block
abbrev pub nothing : Layout
nothing = record { order = []; ports = λ t. 0; late = λ t p. false; source = λ t p. None }

-- a block of n ports at s, with no wires, at the highest rank
abbrev pub inserted : Layout → ℕ → ℕ → List Bool → Layout
inserted l s n late = record {
  order = l.order ++ (s ∷ []);
  ports = λ t. cond (t == s) n (l.ports t);
  late = λ t p. cond (t == s) (slice_index_or late p false) (l.late t p);
  source = λ t p. cond (t == s) None (l.source t p);
}

-- a source, unless it is s
abbrev pub off : ℕ → Option ℕ → Option ℕ
off s None = None
off s (Some u) = cond (u == s) None (Some u)

-- no block at s, and no wire to or from it
abbrev pub removed : Layout → ℕ → Layout
removed l s = record {
  order = filter (λ t. not (t == s)) l.order;
  ports = λ t. cond (t == s) 0 (l.ports t);
  late = λ t p. cond (t == s) false (l.late t p);
  source = λ t p. cond (t == s) None (off s (l.source t p));
}

-- the port p of t fed from o
abbrev pub rewired : Layout → ℕ → ℕ → Option ℕ → Layout
rewired l t p o = record { order = l.order; ports = l.ports; late = l.late; source = λ u q. cond (u == t && q == p) o (l.source u q) }
