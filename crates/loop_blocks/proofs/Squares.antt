-- The root rounded down: there is one, and only one.
use Rattle.std.proofs.Common.{◌≡◌, ℕ, zero, suc, ◌+◌, ◌*◌, ◌≤◌, leb, ℤ, pos, nat_abs, sym, ap, ◌∙◌, subst, inl, inr, add-mul, mul-add, arith}
use lib.Signed.{lt_z}
use Rattle.std.proofs.lemmas.Nat.{mul-le}
use Rattle.std.proofs.lemmas.Int.{ints}
use Rattle.std.proofs.lemmas.Bool.{cases_order, cond_both, cond-false, leb-true, leb-false}
use Rattle.family.specs.declared.values.Inputs.{Inputs}
use Rattle.loop_blocks.specs.declared.record.Kind.{Kind}
use Rattle.loop_blocks.specs.declared.record.LoopRecord.{LoopRecord}
use Rattle.loop_blocks.specs.Root.{IsRoot, rise, root_of, root_out}
use Rattle.loop_blocks.specs.Counts.{heard_all}
use Rattle.loop_blocks.specs.Loops.{counted, output, output_of}
use Rattle.loop_blocks.specs.Steady.{RootExact}

-- squares rise
pub square_le : (a b : ℕ) → a ≤ b → a * a ≤ b * b
square_le a b h = mul-le a a b b h h

square_next : (s : ℕ) → (s + 1) * (s + 1) ≡ s * s + 2 * s + 1
square_next s = omega (arith, add-mul s 1 (s + 1), mul-add s s 1)

root_unique : (n r s : ℕ) → IsRoot n r → IsRoot n s → r ≡ s
root_unique n r s x y =
    elim (cases_order r s) [
      | inl e ↦ e
      | inr o ↦ elim o [
        | inl lt ↦ absurd (omega (arith, x.high, y.low, square_le (r + 1) s (omega arith)))
        | inr gt ↦ absurd (omega (arith, y.high, x.low, square_le (s + 1) r (omega arith)))
      ]
    ]

rise_is : (n s : ℕ) → IsRoot n s → IsRoot (suc n) (rise s (suc n))
rise_is n s h =
    cond_both (leb ((s + 1) * (s + 1)) (suc n)) (s + 1) s (IsRoot (suc n))
    (λ e. record { low = leb-true ((s + 1) * (s + 1)) (suc n) e; high = omega (arith, h.high, square_next (s + 1)) })
    (λ e. record { low = omega (arith, h.low); high = leb-false ((s + 1) * (s + 1)) (suc n) e })

root_is : (n : ℕ) → IsRoot n (root_of n)
unfolding root_of
root_is zero = record { low = omega arith; high = omega arith }
root_is (suc n) = rise_is n (root_of n) (root_is n)

-- whatever is the root of n is the one that the recursion gives
pub is_root : (n r : ℕ) → IsRoot n r → r ≡ root_of n
is_root n r h = root_unique n r (root_of n) h (root_is n)

-- the output of an input that is not below 0
not_below : (a : ℕ) → root_out (pos a) ≡ pos (root_of (1000000 * a))
not_below a = cond-false (lt_z (pos a) (pos 0)) _ _ (grind (arith, ints))

-- a root's output is exact
pub root_exact : (k : LoopRecord) (x : Inputs ℤ) → RootExact k x (output k x)
root_exact k x a kind e =
    let out : output k x ≡ pos (root_of (1000000 * a)) = ap (λ (t : Kind). output_of t (counted k) (heard_all x)) kind ∙ ap root_out e ∙ not_below a in
    subst (λ (y : ℤ). IsRoot (1000000 * a) (nat_abs y)) (sym out) (root_is (1000000 * a))
