-- Refusals by their numbers: the links between the cases of the code's enums and the rules' numbers.
use Rattle.std.specs.Prelude.{ℕ, cond, List, ◌++◌, ◌==◌, codes}
use Rattle.std.specs.Fmt.{decimal}
use Rattle.basics.specs.declared.refusal.Reason.{Reason}
use Rattle.basics.specs.declared.refusal.Reason.TheVariants.{NoStrips, UnknownKind, FirstKindNotRecord, BodyCutShort, BodyBreaksItsRule, UnlawfulLayout, DigitsUsedBefore, TooManyLayouts, LineEndsEarly, UnknownRecord, ForbiddenByte, BlankText, OutOfBounds, NoSuchDay, AmountZero, BytesLeftOver, EmptyFile, UnendedLine, TooManyLines, TooFewValueRows, MemoryShorterThanUsed, NoSuchLine, DraftTooLong, NoFileRoom, NoChangeRoom, NothingToUndo, RowDoesNotFit, NothingToSeal, NotACurrency, UnknownDigits, RowsRunOut, ValueBreaksItsField, RowsLeft, NoRoom}
use Rattle.basics.specs.declared.refusal.Layer.{Layer}
use Rattle.basics.specs.declared.refusal.Layer.TheVariants.{Strips, Lines, Files, Drafts}
use Rattle.basics.specs.declared.refusal.Refusal.{Refusal}

abbrev pub number : Reason → ℕ
number NoStrips = 1
number UnknownKind = 2
number FirstKindNotRecord = 3
number BodyCutShort = 4
number BodyBreaksItsRule = 5
number UnlawfulLayout = 6
number DigitsUsedBefore = 7
number TooManyLayouts = 8
number LineEndsEarly = 11
number UnknownRecord = 12
number ForbiddenByte = 13
number BlankText = 14
number OutOfBounds = 15
number NoSuchDay = 16
number AmountZero = 17
number BytesLeftOver = 18
number EmptyFile = 21
number UnendedLine = 22
number TooManyLines = 23
number TooFewValueRows = 24
number MemoryShorterThanUsed = 31
number NoSuchLine = 32
number DraftTooLong = 33
number NoFileRoom = 34
number NoChangeRoom = 35
number NothingToUndo = 36
number RowDoesNotFit = 37
number NothingToSeal = 38
number NotACurrency = 39
number UnknownDigits = 41
number RowsRunOut = 42
number ValueBreaksItsField = 43
number RowsLeft = 44
number NoRoom = 45

-- the reason of a number; of a number that names none, the last
abbrev pub reason : ℕ → Reason
reason n =
    cond (n == 1) NoStrips (
    cond (n == 2) UnknownKind (
    cond (n == 3) FirstKindNotRecord (
    cond (n == 4) BodyCutShort (
    cond (n == 5) BodyBreaksItsRule (
    cond (n == 6) UnlawfulLayout (
    cond (n == 7) DigitsUsedBefore (
    cond (n == 8) TooManyLayouts (
    cond (n == 11) LineEndsEarly (
    cond (n == 12) UnknownRecord (
    cond (n == 13) ForbiddenByte (
    cond (n == 14) BlankText (
    cond (n == 15) OutOfBounds (
    cond (n == 16) NoSuchDay (
    cond (n == 17) AmountZero (
    cond (n == 18) BytesLeftOver (
    cond (n == 21) EmptyFile (
    cond (n == 22) UnendedLine (
    cond (n == 23) TooManyLines (
    cond (n == 24) TooFewValueRows (
    cond (n == 31) MemoryShorterThanUsed (
    cond (n == 32) NoSuchLine (
    cond (n == 33) DraftTooLong (
    cond (n == 34) NoFileRoom (
    cond (n == 35) NoChangeRoom (
    cond (n == 36) NothingToUndo (
    cond (n == 37) RowDoesNotFit (
    cond (n == 38) NothingToSeal (
    cond (n == 39) NotACurrency (
    cond (n == 41) UnknownDigits (
    cond (n == 42) RowsRunOut (
    cond (n == 43) ValueBreaksItsField (
    cond (n == 44) RowsLeft (
    NoRoom)))))))))))))))))))))))))))))))))

abbrev pub depth : Layer → ℕ
depth Strips = 1
depth Lines = 2
depth Files = 3
depth Drafts = 4

abbrev pub layer : ℕ → Layer
layer n = cond (n == 1) Strips (cond (n == 2) Lines (cond (n == 3) Files Drafts))

-- the refusal of number n in layer l, at this line, field and byte
abbrev pub refusal : ℕ → ℕ → ℕ → ℕ → ℕ → Refusal
refusal n l i f b = record { reason = reason n; layer = layer l; line = i; field = f; byte = b }

-- what a refusal is printed as: its number, layer, line, field and byte in decimal digits
abbrev pub in_words : Refusal → List ℕ
in_words e =
    decimal (number e.reason) ++ (codes " layer " ++ (decimal (depth e.layer) ++ (codes " line " ++ (decimal e.line ++ (codes " field " ++ (decimal e.field ++ (codes " byte " ++ decimal e.byte)))))))
