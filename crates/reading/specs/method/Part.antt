-- A component as a part of the message itself. 01: "handed back as a part of the message itself, release bytes included".
use Rattle.std.specs.Prelude.{ℕ, ◌+◌, ◌-◌, ◌≡◌, List, take, drop}
use Rattle.std.specs.Borrow.{Bor}
use Rattle.reading.specs.method.Machine.{component_span}
use Rattle.reading.specs.declared.service.Service.{Service}
use Rattle.reading.specs.declared.span.Span.{Span}

-- the bytes of a span
abbrev pub bytes_in : Span → List ℕ → List ℕ
bytes_in x bs = take (x.end - x.start) (drop x.start bs)

-- those bytes in the memory where they stand: the promise pins an empty part's place too
pub record PartOf (message : Bor (List ℕ)) (x : Span) (part : Bor (List ℕ)) : Type 0 where
  pub memory : part.ref_ptr.0 ≡ message.ref_ptr.0
  pub place : part.ref_ptr.1 ≡ message.ref_ptr.1 + x.start
  pub bytes : part.now ≡ bytes_in x message.now

abbrev pub IsComponent : Service → Bor (List ℕ) → ℕ → ℕ → ℕ → Bor (List ℕ) → Type 0
IsComponent s message at e c part = PartOf message (component_span s message.now at e c) part
