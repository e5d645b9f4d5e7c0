-- The judgement of a line: it is accepted exactly if it belongs.
use Rattle.std.proofs.Common.{◌≡◌, ℕ, ◌+◌, ◌≤◌, true, cond, ltb, List, [], ◌∷◌, ◌++◌, length, get_or, take, drop, Some, None, Ok, Err, Option, sym, refl, ap, ◌∙◌, subst, arith, length-append}
use Rattle.std.proofs.lemmas.List.{ext_get_or, take_at}
use Rattle.std.proofs.lemmas.Bool.{le-ltb, ltb-false, eqb-true}
use Rattle.basics.specs.Refusals.{refusal}
use Rattle.basics.specs.Decimals.{digits}
use Rattle.layouts.specs.declared.field.Field.{Field}
use Rattle.layouts.specs.declared.field.Field.TheVariants.{Record}
use Rattle.layouts.specs.Kinds.{constant, record_name}
use Rattle.layouts.specs.Layouts.{place, layout_at, or_empty, is_lawful, digits_of}
use Rattle.layouts.proofs.Laws.{lawful-layouts}
use Rattle.lines.specs.Judging.{walked, named, chosen, judged}
use Rattle.lines.specs.Belongs.{Fit, Parts, joining, BelongsAs}
use Rattle.lines.specs.Refuses.{Named}
use Rattle.lines.proofs.Steps.{absurd-err}
use Rattle.lines.proofs.Sound.{not_first}
use Rattle.lines.proofs.Lines.{walk-parts, parts-walk}
use Rattle.lines.proofs.Names.{headed, lawful-at, named-at, at_named}

module _ (ls : List (List Field)) (line : List ℕ) (j : ℕ) where
  chosen-sound : 8 ≤ length line → (o : Option ℕ) → named ls line ≡ o → chosen ls line o ≡ Ok j → BelongsAs ls j line
  chosen-sound long None f e = absurd-err e
  chosen-sound long (Some m) f e =
      let r = named-at ls line m long f in
      let w = walk-parts line m (layout_at ls m) 1 0 j (omega arith) e in
      let same : layout_at ls m ≡ r.layout = ap or_empty r.at in
      record { layout = layout_at ls m; at = ap (place ls) w.1 ∙ r.at ∙ ap Some (sym same); follows = w.0 }

  pub judged-belongs : judged ls line ≡ Ok j → BelongsAs ls j line
  judged-belongs e =
      let d = not_first (ltb (length line) 8) (refusal 11 2 0 1 (length line + 1)) (chosen ls line (named ls line)) j e in
      chosen-sound (ltb-false (length line) 8 d.0) (named ls line) refl d.1

-- bytes that fit a constant part are those bytes
constant-is : (bs s : List ℕ) → Fit (constant bs) s → s ≡ bs
constant-is bs s f = ext_get_or 0 s bs f.wide (λ k l. let w = f.wide in eqb-true (get_or s k 0) (get_or bs k 0) (f.clean k (omega arith)))

-- the parts of a layout that begins with a name begin with it
opening : (d : ℕ) (fs : List Field) (ss : List (List ℕ)) → Parts (Record d ∷ fs) ss → (rest : List ℕ) × (joining ss ≡ record_name d ++ rest)
opening d fs [] h = absurd h
opening d fs (s ∷ ss) h = (joining ss, ap (λ t. t ++ joining ss) (constant-is (record_name d) s h.0))

-- a line that begins with a name shows its digits
shows : (d : ℕ) (rest line : List ℕ) → line ≡ record_name d ++ rest → take 5 (drop 3 line) ≡ digits 5 d
shows d rest line e = ap (λ t. take 5 (drop 3 t)) e ∙ take_at (digits 5 d) rest 5 refl

pub belongs-judged : (ls : List (List Field)) (line : List ℕ) (j : ℕ) → is_lawful ls ≡ true → BelongsAs ls j line → judged ls line ≡ Ok j
belongs-judged ls line j law b =
    let ok = lawful-layouts ls law in
    let l = b.layout in
    let ss = b.follows.parts in
    let h = headed l (lawful-at ls j l ok b.at) in
    let o = opening h.number h.fields ss (subst (λ t. Parts t ss) h.is b.follows.each) in
    let is : line ≡ record_name h.number ++ o.0 = sym b.follows.whole ∙ o.1 in
    let long = ap length is ∙ length-append (record_name h.number) o.0 in
    let n : Named l line = record { number = h.number; has = ap digits_of h.is; shown = shows h.number o.0 line is } in
    ap (λ t. cond t (Err (refusal 11 2 0 1 (length line + 1))) (chosen ls line (named ls line))) (le-ltb (length line) 8 (omega arith))
    ∙ ap (chosen ls line) (at_named ls line j l ok b.at n)
    ∙ ap (λ t. walked line j t 1 0) (ap or_empty b.at)
    ∙ parts-walk line j l ss 1 0 (omega arith) b.follows.each (sym b.follows.whole)
