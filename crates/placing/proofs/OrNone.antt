-- A number where 0 says that there is none, and the `Option` that says the same.
use Prim.Native.Nat.{ℕ, ◌≤◌}
use native.Mathlib.Omega.{arith}
use mathlib.Core.Path.{◌≡◌, refl, sym, ap, ◌∙◌}
use mathlib.Core.Bool.{Bool, true, false, cond}
use lib.Dec.{eqb}
use borrow.Author.Tests.{eq-eqb, ne_eqb, eqb-true, eqb-false}
use Rattle.std.specs.Prelude.{Some, None}
use Rattle.std.specs.Option.{unwrap_or}
use Rattle.std.proofs.lemmas.Option.{none-some, same_Some}
use Rattle.placing.specs.method.Tables.{or_none}

pub is_some_number : (n x : ℕ) → 1 ≤ x → n ≡ x → Some x ≡ or_none n
is_some_number n x h e = ap Some (sym e) ∙ sym (simp (ne_eqb n 0 (λ z. omega arith)))

pub is_none : (n : ℕ) → n ≡ 0 → None ≡ or_none n
is_none n z = sym (simp (eq-eqb n 0 z))

pub some_number : (n x : ℕ) → Some x ≡ or_none n → (x ≡ n) × (1 ≤ x)
some_number n x h = go (eqb n 0) refl h
  where
    go : (v : Bool) → eqb n 0 ≡ v → Some x ≡ cond v None (Some n) → (x ≡ n) × (1 ≤ x)
    go true e i = absurd (none-some x (sym i))
    go false e i = let z = eqb-false n 0 e in let y = same_Some x n i in (y, omega arith)

pub no_number : (n : ℕ) → None ≡ or_none n → n ≡ 0
no_number n h = go (eqb n 0) refl h
  where
    go : (v : Bool) → eqb n 0 ≡ v → None ≡ cond v None (Some n) → n ≡ 0
    go true e i = eqb-true n 0 e
    go false e i = absurd (none-some n i)

pub or_zero : (n : ℕ) → unwrap_or (or_none n) 0 ≡ n
or_zero n = go (eqb n 0) refl
  where
    go : (v : Bool) → eqb n 0 ≡ v → unwrap_or (cond v None (Some n)) 0 ≡ n
    go true e = sym (eqb-true n 0 e)
    go false e = refl
