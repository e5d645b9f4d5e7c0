-- Sealing a draft.
use Rattle.std.specs.Prelude.{cond, Ok, Err, Result, ◌==◌}
use Rattle.changes.specs.Calls.{draft_refusal}
use Rattle.drafts.specs.declared.draft.Draft.{Draft}
use Rattle.drafts.specs.declared.sealed.Sealed.{Sealed}
use Rattle.drafts.specs.declared.sealed.Unsealed.{Unsealed}

-- 38 where no file bytes are used, with the draft as it was; else a sealed file of as many bytes
abbrev pub sealed_of : Draft → Result Sealed Unsealed
sealed_of d = cond (d.file == 0) (Err (record { refusal = draft_refusal 38; draft = d })) (Ok (record { file = d.file }))
