-- Reading strips, field by field, with the refusals in their order. Bytes count from 1.
use Rattle.std.specs.Prelude.{◌≡◌, ℕ, zero, suc, ◌+◌, cond, List, [], ◌∷◌, ◌++◌, length, take, Some, None, Ok, Err, Option, Result, ◌==◌, nat_lt}
use Rattle.std.specs.Option.{ok_or}
use Rattle.basics.specs.declared.refusal.Refusal.{Refusal}
use Rattle.basics.specs.Refusals.{refusal}
use Rattle.layouts.specs.declared.field.Field.{Field}
use Rattle.layouts.specs.Layouts.{record_of, none_named, lawful_layout}
use Rattle.strips.specs.declared.kind.Kind.{Kind}
use Rattle.strips.specs.declared.kind.Kind.TheVariants.{Record}
use Rattle.strips.specs.declared.load.LoadError.{LoadError}
use Rattle.strips.specs.declared.load.LoadError.TheVariants.{Refused, NoMemory}
use Rattle.strips.specs.Strips.{kind_of, body_width, field_in}

abbrev pub and_then : {A B : Type 0} → Result A Refusal → (A → Result B Refusal) → Result B Refusal
and_then (Ok x) k = k x
and_then (Err e) k = Err e

-- refusal n of strips, at this byte
abbrev pub at : ℕ → ℕ → Refusal
at n b = refusal n 1 0 0 b

-- how far reading has come: the finished layouts, the fields of the open one, which has none
-- before the first U, and the byte of its U
pub record Reading : Type 0 where
  pub done : List (List Field)
  pub fields : List Field
  pub from : ℕ

abbrev pub start : Reading
start = record { done = []; fields = []; from = 0 }

-- the open layout is finished: 6 at its U if it is unlawful
abbrev pub finished : List (List Field) → List Field → ℕ → Result (List (List Field)) Refusal
finished ls [] b = Ok ls
finished ls (f ∷ fs) b = cond (lawful_layout (f ∷ fs)) (Ok (ls ++ ((f ∷ fs) ∷ []))) (Err (at 6 b))

abbrev pub closed : Reading → Result (List (List Field)) Refusal
closed r = finished r.done r.fields r.from

-- the field whose kind stands at byte b, with its body at the front of s: 4 where s ends first, 5
-- where the body breaks its rule
abbrev pub field_from : ℕ → Kind → List ℕ → Result Field Refusal
field_from b k s = cond (nat_lt (length s) (body_width k)) (Err (at 4 b)) (ok_or (field_in k (take (body_width k) s)) (at 5 b))

-- the U field f at byte b begins the next layout: 8 if it is the ninth, 7 if its digits are used
abbrev pub opened : ℕ → List (List Field) → Field → Result Reading Refusal
opened b ls f =
    cond (nat_lt (length ls) 8) (cond (none_named (record_of f) ls) (Ok (record { done = ls; fields = f ∷ []; from = b })) (Err (at 7 b))) (Err (at 8 b))

abbrev pub added : Reading → Field → Reading
added r f = record { done = r.done; fields = r.fields ++ (f ∷ []); from = r.from }

-- a U at byte b, and what stands behind it
abbrev pub next_layout : ℕ → Reading → List ℕ → Result Reading Refusal
next_layout b r s = and_then (closed r) (λ ls. and_then (field_from b Record s) (opened b ls))

-- another letter k at byte b, and what stands behind it: 2 if it names no kind
abbrev pub next_field : ℕ → Reading → ℕ → List ℕ → Result Reading Refusal
next_field b r k s = and_then (ok_or (kind_of k) (at 2 b)) (λ q. and_then (field_from b q s) (λ f. Ok (added r f)))

abbrev pub stepped : ℕ → Reading → ℕ → List ℕ → Result Reading Refusal
stepped b r k s = cond (k == 85) (next_layout b r s) (next_field b r k s)

abbrev pub width_of : Option Kind → ℕ
width_of None = 0
width_of (Some k) = body_width k

-- what stands behind place p, of which so many bytes belong to a body that is read
abbrev pub read_from : ℕ → ℕ → Reading → List ℕ → Result (List (List Field)) Refusal
read_from w p r [] = closed r
read_from zero p r (k ∷ s) = and_then (stepped (p + 1) r k s) (λ q. read_from (width_of (kind_of k)) (p + 1) q s)
read_from (suc w) p r (b ∷ s) = read_from w (p + 1) r s

-- the layouts that strips write, or the first refusal
abbrev pub read : List ℕ → Result (List (List Field)) Refusal
read [] = Err (at 1 0)
read (k ∷ s) = cond (k == 85) (read_from 0 0 start (k ∷ s)) (Err (at 3 1))

-- a call answers as a definition does, unless there is no memory
abbrev pub Tells : {A : Type 0} → LoadError → Result A Refusal → Type 0
Tells (Refused e) o = o ≡ Err e
Tells NoMemory o = Unit {0}

abbrev pub Answers : {T A : Type 0} → Result T LoadError → (T → A) → Result A Refusal → Type 0
Answers (Ok x) seen o = o ≡ Ok (seen x)
Answers (Err e) seen o = Tells e o
