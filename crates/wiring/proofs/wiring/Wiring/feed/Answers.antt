use Rattle.std.proofs.Common.{◌≡◌, ℕ, ◌<◌, true, false, get_or, set, Some, Option, refl, arith, rules}
use Rattle.wiring.specs.declared.wiring.Wiring.{Wiring}
use Rattle.wiring.specs.Change.{Same, rewired}
use Rattle.wiring.specs.Layout.{Layout, Direct, layout_of, is_placed, rank_of}
use Rattle.wiring.specs.Sound.{live_of, rank_in, Sound}
use Rattle.wiring.specs.View.{layout}
use Rattle.wiring.proofs.Rings.{no_ring}
use Rattle.wiring.proofs.Whole.{alive, rank_at, sound}
use Rattle.wiring.proofs.Wires.{rewired_sound, set_rewired}
use Rattle.wiring.proofs.wiring.Wiring.feed.Goals as goal

-- a wiring's layout rewired is sound, where the new wire ascends
fed_sound : (w : Wiring) (m : Layout) (t p : ℕ) (from : Option ℕ) → Same m (rewired (layout w) t p from) → is_placed (layout w) t ≡ true → p < (layout w).ports t
    → ((s : ℕ) → from ≡ Some s → (is_placed (layout w) s ≡ true) × ((layout w).late t p ≡ false → rank_of (layout w) s < rank_of (layout w) t)) → Sound w.count w.order (rank_in w.rank) (live_of w.rank) m
fed_sound w m t p from same on in' up =
    rewired_sound (layout w) m t p from same w.count w.order (rank_in w.rank) (live_of w.rank) (alive w t on) in'
    (λ s e. let f = up s e in (alive w s f.0, λ d. let k = f.1 d in omega (arith, rank_at w s f.0, rank_at w t on))) (sound w)

pub invariant_of-self : goal.invariant_of-self
invariant_of-self c =
    let w = c.args.self.now in
    let b = c.feed.new.self in
    let same = set_rewired w.count w.order w.slots c.args.target c.args.port c.args.from b (search rules) c.feed.ensures.ports c.feed.ensures.late c.feed.ensures.source in
    let x = fed_sound w (layout_of w.count w.order (set w.slots c.args.target b)) c.args.target c.args.port c.args.from same c.requires.target c.requires.port c.requires.from in
    record { room = w.room; sized = w.sized; placed = x.placed; ranked = x.ranked; few = x.few; fits = x.fits; heads = x.heads; tails = x.tails; ascends = x.ascends }

pub returns : goal.returns
returns c =
    let w = c.args.self.now in
    let m = rewired (layout w) c.args.target c.args.port c.args.from in
    let x = fed_sound w m c.args.target c.args.port c.args.from (record { order = refl; ports = λ u. refl; late = λ u q. refl; source = λ u q. refl }) c.requires.target c.requires.port c.requires.from in
    record {
      same = set_rewired w.count w.order w.slots c.args.target c.args.port c.args.from c.feed.new.self (search rules) c.feed.ensures.ports c.feed.ensures.late c.feed.ensures.source;
      free = no_ring (Direct m) (λ s. get_or (rank_in w.rank) s 0) x.ascends;
    }
