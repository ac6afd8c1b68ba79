-- The Prüfidentifikator, as chains look for it.
use Rattle.std.proofs.Common.{ℕ, zero, suc, ◌+◌, List, [], ◌∷◌, cond, eqb, length, get_or, ◌≡◌, refl, ap, ◌∙◌, add-one, arith, Some}
use Rattle.std.specs.List.{list_all, find, range_with_len}
use Rattle.guide.specs.meaning.Guide.{Guide}
use Rattle.reading.specs.meaning.Component.{same_component}
use Rattle.rules.specs.meaning.Identifiers.{identifier_value}
use Rattle.rules.specs.method.Identifiers.{identified_from}

-- byte by byte, where there are five
pub same_bytes : (f : ℕ → ℕ) (value : List ℕ) → length value ≡ 5
    → list_all (λ k. eqb (get_or value k 0) (f k)) (range_with_len 0 5) ≡ same_component value (f 0 ∷ f 1 ∷ f 2 ∷ f 3 ∷ f 4 ∷ [])
unfolding same_component
same_bytes f (a ∷ b ∷ c ∷ d ∷ e ∷ []) h = refl
same_bytes f value h = absurd (omega arith)

pub find_identified : (g : Guide) (value : List ℕ) (p count : ℕ)
    → find (λ q. same_component value (identifier_value g q)) (range_with_len p count) ≡ identified_from g value p count
unfolding identified_from
find_identified g value p zero = refl
find_identified g value p (suc count) =
    ap (cond (same_component value (identifier_value g p)) (Some p))
    (find_identified g value (p + 1) count ∙ ap (λ (q : ℕ). identified_from g value q count) (add-one p))
