-- A line that belongs to a lawful set has text bytes alone: no CR and no LF.
use Rattle.std.proofs.Common.{◌≡◌, ℕ, ◌*◌, ◌<◌, ◌≤◌, Bool, true, not, ◌&&◌, ◌||◌, eqb, leb, List, [], ◌∷◌, ◌++◌, get_or, take, drop, replicate, sym, refl, ap, ◌∙◌, subst, ⊎_elim, arith, length-drop, take-append-drop}
use borrow.Author.Tests.{clash}
use Rattle.std.proofs.lemmas.List.{drop-drop, get_or-replicate, length-replicate}
use Rattle.std.proofs.lemmas.Bool.{and_parts, and_from, leb-true, le-leb, or_left, or_cases, eqb-true}
use Rattle.basics.specs.declared.bytes.ByteClass.TheVariants as class
use Rattle.basics.specs.Bytes.{between, allowed, all}
use Rattle.basics.specs.Decimals.{number_of, digits}
use Rattle.basics.proofs.ByteLaws.{all-at, at_all}
use Rattle.basics.proofs.DigitLaws.{digit-is, digits_are}
use Rattle.layouts.specs.declared.field.Field.{Field}
use Rattle.layouts.specs.declared.field.Field.TheVariants.{Record, Range, Number, Zeros, Text, FilledText, Blanks, Day, DayOrZero, Amount, Currency, OneOf, Lines, AllOrNoLines}
use Rattle.layouts.specs.Kinds.{Part, constant, figures, line, record_name, width, allows}
use Rattle.layouts.specs.Layouts.{letter, figured, later, lawful_layout, is_lawful}
use Rattle.layouts.proofs.Laws.{layout-law, lawful-layouts}
use Rattle.lines.specs.Belongs.{Fit, Block, Writes, Parts, joining, BelongsAs}
use Rattle.lines.proofs.Complete.{text_at_lem}
use Rattle.lines.proofs.Names.{lawful-at}

-- every byte is a text byte
abbrev pub TextOnly : List ℕ → Type 0
TextOnly s = all (allowed class.Text) s ≡ true

low-text : (b : ℕ) → 32 ≤ b → b ≤ 126 → allowed class.Text b ≡ true
low-text b l h = or_left (between 32 126 b) (between 160 255 b) (and_from (leb 32 b) (leb b 126) (le-leb 32 b l) (le-leb b 126 h))

digit-text : (b : ℕ) → allowed class.Digit b ≡ true → allowed class.Text b ≡ true
digit-text b e = let d = digit-is b e in let l = d.0 in let h = d.1 in low-text b (omega arith) (omega arith)

capital-text : (b : ℕ) → allowed class.Capital b ≡ true → allowed class.Text b ≡ true
capital-text b e =
    let d = and_parts (leb 65 b) (leb b 90) e in
    let l = leb-true 65 b d.0 in
    let h = leb-true b 90 d.1 in
    low-text b (omega arith) (omega arith)

text-append : (s t : List ℕ) → TextOnly s → TextOnly t → TextOnly (s ++ t)
text-append [] t a b = b
text-append (x ∷ xs) t a b =
    let d = and_parts (allowed class.Text x) (all (allowed class.Text) xs) a in
    and_from (allowed class.Text x) (all (allowed class.Text) (xs ++ t)) d.0 (text-append xs t d.1 b)

-- a part that allows nothing else
part-text : (q : Part) (s : List ℕ) → Fit q s → ((k b : ℕ) → k < width q → allows q k b ≡ true → allowed class.Text b ≡ true) → TextOnly s
part-text q s f h = at_all (allowed class.Text) s (λ j l. let w = f.wide in h j (get_or s j 0) (omega arith) (f.clean j (omega arith)))

constant-text : (bs s : List ℕ) → TextOnly bs → Fit (constant bs) s → TextOnly s
constant-text bs s t f = part-text (constant bs) s f (λ k b l e. ap (allowed class.Text) (eqb-true b (get_or bs k 0) e) ∙ all-at (allowed class.Text) bs k t l)

digits-text : (s : List ℕ) → all (allowed class.Digit) s ≡ true → TextOnly s
digits-text s e = at_all (allowed class.Text) s (λ j l. digit-text (get_or s j 0) (all-at (allowed class.Digit) s j e l))

name-text : (d : ℕ) → TextOnly (record_name d)
name-text d = text-append (85 ∷ 66 ∷ 84 ∷ []) (digits 5 d) refl (digits-text (digits 5 d) (digits_are 5 d))

many-text : (w b : ℕ) → allowed class.Text b ≡ true → TextOnly (replicate w b)
many-text w b e =
    at_all (allowed class.Text) (replicate w b) (λ j l. let n = length-replicate {A = ℕ} w b in ap (allowed class.Text) (get_or-replicate w j b 0 (omega arith)) ∙ e)

number-text : (w : ℕ) (ok : ℕ → Bool) (n : ℕ) (s : List ℕ) → Fit (figures w ok n) s → TextOnly s
number-text w ok n s f = part-text (figures w ok n) s f (λ k b l e. digit-text b e)

block-text : (counts : ℕ → Bool) (ok : List ℕ → Bool) (s : List ℕ) → Block counts ok s → TextOnly s
block-text counts ok s b =
    let n = number_of (take 2 s) in
    let w = b.wide in
    let d = length-drop 2 s in
    let rest : TextOnly (drop 2 s) =
    at_all (allowed class.Text) (drop 2 s) (λ j l. text_at_lem ok n (drop 2 s) (λ k m. subst (Fit (line ok)) (ap (take 35) (sym (drop-drop (35 * k) 2 s))) (b.each k m)) j (omega arith)) in
    subst TextOnly (take-append-drop 2 s) (text-append (take 2 s) (drop 2 s) (number-text 2 counts 15 (take 2 s) b.counted) rest)

one-of-text : (a b c d : ℕ) → figured (OneOf a b c d) ≡ true → (x : ℕ) → allowed (class.OneOf a b c d) x ≡ true → allowed class.Text x ≡ true
one-of-text a b c d e x h =
    let p = and_parts (allowed class.Text a) (allowed class.Text b && (allowed class.Text c && allowed class.Text d)) e in
    let q = and_parts (allowed class.Text b) (allowed class.Text c && allowed class.Text d) p.1 in
    let r = and_parts (allowed class.Text c) (allowed class.Text d) q.1 in
    ⊎_elim (λ i. ap (allowed class.Text) (eqb-true x a i) ∙ p.0)
    (λ i. ⊎_elim (λ j. ap (allowed class.Text) (eqb-true x b j) ∙ q.0)
    (λ j. ⊎_elim (λ k. ap (allowed class.Text) (eqb-true x c k) ∙ r.0) (λ k. ap (allowed class.Text) (eqb-true x d k) ∙ r.1) (or_cases (eqb x c) (eqb x d) j))
    (or_cases (eqb x b) (eqb x c || eqb x d) i))
    (or_cases (eqb x a) (eqb x b || (eqb x c || eqb x d)) h)

field-text : (f : Field) (s : List ℕ) → figured f ≡ true → Writes f s → TextOnly s
field-text (Record d) s e h = constant-text (record_name d) s (name-text d) h
field-text (Range a b) s e h = number-text 2 (between a b) 15 s h
field-text (Number w) s e h = part-text _ s h (λ k b l g. digit-text b g)
field-text (Zeros w) s e h = constant-text (replicate w 48) s (many-text w 48 refl) h
field-text (Text w) s e h = part-text _ s h (λ k b l g. g)
field-text (FilledText w) s e h = part-text _ s h (λ k b l g. g)
field-text (Blanks w) s e h = constant-text (replicate w 32) s (many-text w 32 refl) h
field-text Day s e h = part-text _ s h (λ k b l g. digit-text b g)
field-text DayOrZero s e h = part-text _ s h (λ k b l g. digit-text b g)
field-text Amount s e h = part-text _ s h (λ k b l g. digit-text b g)
field-text Currency s e h = part-text _ s h (λ k b l g. capital-text b g)
field-text (OneOf a b c d) s e h = part-text _ s h (λ k x l g. one-of-text a b c d e x g)
field-text (Lines a b) s e h = block-text _ _ s h
field-text (AllOrNoLines n) s e h = block-text _ _ s h

later-text : (fs : List Field) (ss : List (List ℕ)) → later fs ≡ true → Parts fs ss → TextOnly (joining ss)
later-text [] [] e h = refl
later-text [] (s ∷ ss) e h = absurd h
later-text (f ∷ fs) [] e h = absurd h
later-text (f ∷ fs) (s ∷ ss) e h =
    let a = and_parts (not (eqb (letter f) 85) && figured f) (later fs) e in
    let b = and_parts (not (eqb (letter f) 85)) (figured f) a.0 in
    text-append s (joining ss) (field-text f s b.1 h.0) (later-text fs ss a.1 h.1)

layout-text : (l : List Field) (ss : List (List ℕ)) → lawful_layout l ≡ true → Parts l ss → TextOnly (joining ss)
layout-text [] ss e h = absurd (clash e)
layout-text (f ∷ fs) [] e h = absurd h
layout-text (f ∷ fs) (s ∷ ss) e h =
    let law = layout-law f fs e in
    text-append s (joining ss) (field-text f s law.figured' h.0) (later-text fs ss law.others h.1)

pub belongs-text : (ls : List (List Field)) (j : ℕ) (line' : List ℕ) → is_lawful ls ≡ true → BelongsAs ls j line' → TextOnly line'
belongs-text ls j line' law b =
    subst TextOnly b.follows.whole (layout-text b.layout b.follows.parts (lawful-at ls j b.layout (lawful-layouts ls law) b.at) b.follows.each)
