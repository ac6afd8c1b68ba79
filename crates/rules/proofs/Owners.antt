-- From a line up to its owner: the nearest line before it that lies higher.
use Rattle.std.proofs.Common.{ℕ, zero, suc, ◌≤◌, ◌<◌, Bool, true, false, cond, ltb, ◌≡◌, refl, sym, ◌⊎◌, inl, inr, arith}
use Rattle.std.proofs.Math.Nat.{eq-or-lt_of_le}
use borrow.Author.Tests.{lt-ltb, le-ltb}
use Rattle.guide.specs.meaning.Plan.{Plan, deep}
use Rattle.guide.specs.meaning.Tree.{climb, owner}
use Rattle.guide.proofs.Depths.{line_deep}

module _ (b : Plan) (d : ℕ) where
  climb_found : (o to : ℕ) → o < to → deep b o < d → ((k : ℕ) → o < k → k < to → d ≤ deep b k) → climb b d to ≡ o
  unfolding climb
  climb_found o zero h l n = absurd (omega arith)
  climb_found o (suc to) h l n = go (λ q. climb_found o to q l (λ k x y. n k x (omega arith))) (eq-or-lt_of_le {n = o} {m = to} (omega arith))
    where
      go : (o < to → climb b d to ≡ o) → (o ≡ to) ⊎ (o < to) → cond (ltb (deep b to) d) to (climb b d to) ≡ o
      go further (inr q) = rw (le-ltb (deep b to) d (n to q (omega arith))) (further q)
      go further (inl e) = rw (sym e, lt-ltb (deep b o) d l)

  climb_none : (to : ℕ) → ((k : ℕ) → 0 < k → k < to → d ≤ deep b k) → climb b d to ≡ 0
  unfolding climb
  climb_none zero n = refl
  climb_none (suc zero) n = go (ltb (deep b 0) d)
    where
      go : (t : Bool) → ◌≡◌ {A = ℕ} (cond t 0 0) 0
      go true = refl
      go false = refl
  climb_none (suc (suc to)) n = rw (le-ltb (deep b (suc to)) d (n (suc to) (omega arith) (omega arith))) (climb_none (suc to) (λ k x y. n k x (omega arith)))

module _ (b : Plan) (line : ℕ) where
  -- all lines behind this one, up to before the line, lie as deep as it or deeper
  abbrev pub NoneHigherBehind : ℕ → Type 0
  NoneHigherBehind o = (k : ℕ) → o < k → k < line → b.depth line ≤ b.depth k

  deeper : (o : ℕ) → NoneHigherBehind o → (k : ℕ) → o < k → k < line → deep b line ≤ deep b k
  deeper o n k x y = let q = line_deep b line (omega arith) in let p = line_deep b k (omega arith) in let r = n k x y in omega arith

  pub owner_found : (o : ℕ) → 0 < o → o < line → b.depth o < b.depth line → NoneHigherBehind o → owner b line ≡ o
  owner_found o z h l n =
      climb_found b (deep b line) o line h (let q = line_deep b line (omega arith) in let p = line_deep b o z in omega arith) (deeper o n)

  pub owner_none : NoneHigherBehind 0 → owner b line ≡ 0
  owner_none n = climb_none b (deep b line) line (deeper 0 n)

pub ruleset owners = (owner_found, owner_none)
