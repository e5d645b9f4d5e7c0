-- A lawful writing of a field passes.
use Rattle.std.proofs.Common.{◌≡◌, ℕ, zero, suc, ◌+◌, ◌-◌, ◌*◌, ◌/◌, ◌%◌, ◌<◌, ◌≤◌, Bool, true, cond, List, ◌++◌, length, get_or, take, drop, Ok, Err, Result, sym, ap, ◌∙◌, subst, append_assoc, add-zero, div-add-mod', arith, length-append, length-drop, take-append-drop}
use Rattle.std.proofs.lemmas.Nat.{div_below, mod_below}
use Rattle.std.proofs.lemmas.List.{drop-drop, take_at, drop_at, take-append-le, get_or-take, get_or-drop}
use Rattle.std.proofs.lemmas.Bool.{le-ltb}
use Rattle.basics.specs.declared.bytes.ByteClass.TheVariants as class
use Rattle.basics.specs.declared.refusal.Refusal.{Refusal}
use Rattle.basics.specs.Refusals.{refusal}
use Rattle.basics.specs.Bytes.{allowed, anywhere}
use Rattle.basics.specs.Decimals.{number_of}
use Rattle.basics.proofs.ByteLaws.{none-of-clean}
use Rattle.layouts.specs.Kinds.{Part, Shape, one, block, count, line, width, allows, passes, refused_by}
use Rattle.lines.specs.Judging.{and_then, unforbidden, cleaned, part_in, cut, part_end, each_line, lines_in, lines_end, field_end}
use Rattle.lines.specs.Belongs.{Fit, Block, Lawful}

-- the line from p on begins with s
module _ (i p : ℕ) (line' s rest : List ℕ) (at : drop p line' ≡ s ++ rest) where
  pub room : length s ≤ length line' - p
  room = let e = sym (length-drop p line') ∙ ap length at ∙ length-append s rest in omega arith

  cut-passes : (w : ℕ) (k : List ℕ → Result ℕ Refusal) (r : Result ℕ Refusal) → length s ≡ w → k s ≡ r → cut w i p line' k ≡ r
  cut-passes w k r wide e =
      let h = room in
      ap (λ t. cond t (Err (refusal 11 2 0 i (length line' + 1))) (k (take w (drop p line')))) (le-ltb (length line' - p) w (omega arith))
      ∙ ap k (ap (take w) at ∙ take_at s rest w wide)
      ∙ e

  clean-passes : (ok : ℕ → ℕ → Bool) → ((k : ℕ) → k < length s → ok k (get_or s k 0) ≡ true) → cleaned ok i p s ≡ Ok (p + length s)
  clean-passes ok h = ap (λ o. unforbidden o i p (p + length s)) (none-of-clean ok s h)

  pub part-passes : (q : Part) → Fit q s → part_end q i p line' ≡ Ok (p + length s)
  part-passes q f =
      let w = f.wide in
      cut-passes (width q) (part_in q i p) (Ok (p + length s)) w
      (ap (λ r. and_then r (λ e. cond (passes q s) (Ok e) (Err (refusal (refused_by q) 2 0 i (p + 1))))) (clean-passes (allows q) (λ k l. f.clean k (omega arith)))
      ∙ ap (λ t. cond t (Ok (p + length s)) (Err (refusal (refused_by q) 2 0 i (p + 1)))) f.value)

each-passes : (ok : List ℕ → Bool) (n i p : ℕ) (s : List ℕ) → ((k : ℕ) → k < n → ok (take 35 (drop (35 * k) s)) ≡ true) → each_line ok n i p s ≡ Ok (p + 35 * n)
each-passes ok zero i p s h = ap Ok (sym (add-zero p))
each-passes ok (suc n) i p s h =
    let more : p + 35 + 35 * n ≡ p + 35 * suc n = omega arith in
    ap (λ t. cond t (each_line ok n i (p + 35) (drop 35 s)) (Err (refusal 14 2 0 i (p + 1)))) (h 0 (omega arith))
    ∙ each-passes ok n i (p + 35) (drop 35 s) (λ k l. let b : 35 + 35 * k ≡ 35 * suc k = omega arith in ap (λ t. ok (take 35 t)) (drop-drop (35 * k) 35 s ∙ ap (λ m. drop m s) b) ∙ h (suc k) (omega arith))
    ∙ ap Ok more

-- every byte of n lines stands in one of them
pub text_at_lem : (ok : List ℕ → Bool) (n : ℕ) (s : List ℕ) → ((k : ℕ) → k < n → Fit (line ok) (take 35 (drop (35 * k) s))) → (j : ℕ) → j < 35 * n → allowed class.Text (get_or s j 0) ≡ true
text_at_lem ok n s each j h =
    let k = j / 35 in
    let r = j % 35 in
    let whole : 35 * k + r ≡ j = omega (arith, div-add-mod' j 35) in
    let small : r < 35 = mod_below j 35 (omega arith) in
    let there : k < n = div_below j 35 n (omega arith) (omega arith) in
    ap (allowed class.Text) (sym (get_or-take 35 (drop (35 * k) s) r 0 small ∙ get_or-drop (35 * k) s r 0 ∙ ap (λ m. get_or s m 0) whole)) ∙ (each k there).clean r small

-- a block: its count, then its lines
module _ (counts : ℕ → Bool) (ok : List ℕ → Bool) (i p : ℕ) (line' s rest : List ℕ) (at : drop p line' ≡ s ++ rest) (b : Block counts ok s) where
  split : drop p line' ≡ take 2 s ++ (drop 2 s ++ rest)
  split = at ∙ ap (λ t. t ++ rest) (sym (take-append-drop 2 s)) ∙ append_assoc (take 2 s) (drop 2 s) rest

  front : take 2 (drop p line') ≡ take 2 s
  front = let w = b.wide in ap (take 2) at ∙ take-append-le 2 s rest (omega arith)

  behind : drop (p + 2) line' ≡ drop 2 s ++ rest
  behind = sym (drop-drop 2 p line') ∙ ap (drop 2) split ∙ drop_at (take 2 s) (drop 2 s ++ rest) 2 b.counted.wide

  each' : (k : ℕ) → k < number_of (take 2 s) → Fit (line ok) (take 35 (drop (35 * k) (drop 2 s)))
  each' k l = subst (Fit (line ok)) (ap (take 35) (sym (drop-drop (35 * k) 2 s))) (b.each k l)

  pub block-passes : (high : ℕ) → field_end (block high counts ok) i p line' ≡ Ok (p + length s)
  block-passes high =
      let n = number_of (take 2 s) in
      let w = b.wide in
      let two = b.counted.wide in
      let d = length-drop 2 s in
      let wide : length (drop 2 s) ≡ 35 * n = omega arith in
      let last : p + 2 + 35 * n ≡ p + length s = omega arith in
      ap (λ m. and_then (part_end (count counts) i p line') (λ e. lines_end ok m i e line')) (ap number_of front)
      ∙ ap (λ r. and_then r (λ e. lines_end ok n i e line')) (part-passes i p line' (take 2 s) (drop 2 s ++ rest) split (count counts) b.counted ∙ ap (λ m. Ok (p + m)) two)
      ∙ cut-passes i (p + 2) line' (drop 2 s) rest behind (35 * n) (lines_in ok n i (p + 2)) (Ok (p + 2 + 35 * n)) wide
      (ap (λ r. and_then r (λ e. each_line ok n i (p + 2) (drop 2 s))) (clean-passes i (p + 2) line' (drop 2 s) rest behind (anywhere (allowed class.Text)) (λ k l. text_at_lem ok n (drop 2 s) each' k (omega arith)))
      ∙ each-passes ok n i (p + 2) (drop 2 s) (λ k l. (each' k l).value))
      ∙ ap Ok last

pub passes-field : (f : Shape) (i p : ℕ) (line' s rest : List ℕ) → drop p line' ≡ s ++ rest → Lawful f s → field_end f i p line' ≡ Ok (p + length s)
passes-field (one q) i p line' s rest at h = part-passes i p line' s rest at q h
passes-field (block high counts ok) i p line' s rest at h = block-passes counts ok i p line' s rest at h high
