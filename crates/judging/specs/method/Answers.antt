-- 01's number and values for each answer of the layers below: one definition for each of their enums, and no other. (Numbers 3 to 9
-- are worked out in framing.)
use Rattle.std.specs.Prelude.{⊤, ℕ, Option, Some, None, Result, Ok, Err}
use Rattle.framing.specs.meaning.Record.{place, verdict, answer}
use Rattle.framing.specs.declared.verdict.Verdict.{Verdict}
use Rattle.placing.specs.declared.passes.Unplaced.{Unplaced}
use Rattle.placing.specs.declared.passes.Unplaced.TheVariants.{NoHome, Stops}
use Rattle.fields.specs.declared.passes.FirstFault.{FirstFault}
use Rattle.rules.specs.method.Scanning.{Outcome}
use Rattle.rules.specs.declared.finding.Finding.TheVariants.{Broken, Unsettled}

-- 01, number 10: "first place"; number 11: "smallest k whose first k homes begin no allowed sequence"
abbrev pub placing_verdict : ℕ → Result ⊤ Unplaced → Verdict
placing_verdict n (Ok _) = answer 0 n
placing_verdict n (Err (NoHome k)) = answer 10 k
placing_verdict n (Err (Stops k)) = answer 11 k

-- 01, number 12: "first place, its line, and the smallest (element, component) at fault there"; else the rest of the table decides
abbrev pub fields_verdict : Result ⊤ FirstFault → Verdict → Verdict
fields_verdict (Err x) rest = verdict 12 (place x.place x.line x.element x.component) 0
fields_verdict (Ok _) rest = rest

-- 01, number 13: "its place"; the rows of a Prüfidentifikator that the book has decide
abbrev pub identified_verdict : ℕ → Option ℕ → (ℕ → Verdict) → Verdict
identified_verdict k None rows = answer 13 k
identified_verdict k (Some p) rows = rows p

-- 01, number 14: "place, line"; number 15: "place, line, lowest unknown condition of the row"; number 0: "place n"
abbrev pub rows_verdict : ℕ → Outcome → Verdict
rows_verdict n (Ok u) = answer 0 n
rows_verdict n (Err (Broken k l)) = verdict 14 (place k l 0 0) 0
rows_verdict n (Err (Unsettled k l c)) = verdict 15 (place k l 0 0) c
