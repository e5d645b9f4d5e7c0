-- What memory holds in which bytes are moved and others put in their place.
use Rattle.std.proofs.Common.{◌≡◌, ℕ, ◌+◌, ◌-◌, ◌≤◌, List, [], ◌∷◌, ◌++◌, length, take, drop, sym, ap, ◌∙◌, append_assoc, arith, length-append, length-drop, take-add}
use native.Mathlib.Nat.{sub-zero}
use lib.Seq.{paste}
use borrow.Rule.Slice.PartMut.{put_mid}
use Rattle.std.proofs.lemmas.Slice.{take-put_mid, drop-put_mid}
use Rattle.std.proofs.lemmas.List.Edits.{length-paste, take-paste}
use Rattle.std.proofs.lemmas.List.{length-take-le, drop_at, drop-drop, take-take, drop-take, take-append-le}
use Rattle.changes.specs.Edits.{ended}
use Rattle.changes.proofs.PlaceLaws.{spliced}

-- M is the memory before, N once the bytes behind are moved, ys what is written
pub splice-holds : (M N bs ys : List ℕ) (used at gone : ℕ) → at + gone ≤ used → used ≤ length M → used + length bs ≤ length M + gone → N ≡ paste M (at + length bs) (drop (at + gone) M) (used - (at + gone)) → ys ≡ bs → take (at + length bs + (used - (at + gone))) (put_mid at (at + length bs - at) N ys) ≡ spliced (take used M) at gone bs
splice-holds M N bs ys used at gone inside fits room moved put =
    let e = at + length bs in
    let n = used - (at + gone) in
    let s = drop (at + gone) M in
    let k = e - at in
    let long : e + n ≤ length M = omega arith in
    let back : length s ≡ length M - (at + gone) = length-drop (at + gone) M in
    let sized : length N ≡ length M = ap length moved ∙ length-paste M e s n long (omega arith) in
    let ylen : length ys ≡ length bs = ap length put in
    let front : take (e + n) N ≡ take e M ++ take n s = ap (take (e + n)) moved ∙ take-paste M e s n (omega arith) (omega arith) in
    let low : take at N ≡ take at M =
    sym (take-take at (e + n) N (omega arith)) ∙ ap (take at) front
    ∙ take-append-le at (take e M) (take n s) (rw (length-take-le e M (omega arith)) (omega arith))
    ∙ take-take at e M (omega arith) in
    let high : take n (drop e N) ≡ take n s =
    sym (drop-take e n N) ∙ ap (drop e) front ∙ drop_at (take e M) (take n s) e (length-take-le e M (omega arith)) in
    let used-is : (at + gone) + n ≡ used = omega arith in
    let tail : take n s ≡ drop (at + gone) (take used M) = sym (drop-take (at + gone) n M) ∙ ap (λ u. drop (at + gone) (take u M)) used-is in
    take-add e n (put_mid at k N ys)
    ∙ (λ i. take-put_mid at k N ys e (omega arith) (omega arith) i ++ take n (drop-put_mid at k N ys e (omega arith) (omega arith) (omega arith) i))
    ∙ (λ i. (low i ++ put i) ++ (high ∙ tail) i)
    ∙ append_assoc (take at M) bs (drop (at + gone) (take used M))
    ∙ ap (λ x. x ++ (bs ++ drop (at + gone) (take used M))) (sym (take-take at used M (omega arith)))

-- one part put in behind another is both put in at once
two-puts : (at n : ℕ) (N ys zs : List ℕ) → at ≤ length N → length ys ≡ n → put_mid (at + n) 2 (put_mid at n N ys) zs ≡ put_mid at (n + 2) N (ys ++ zs)
two-puts at n N ys zs fits long =
    let low : take (at + n) (put_mid at n N ys) ≡ take at N ++ ys = take-put_mid at n N ys (at + n) (omega arith) fits in
    let high : drop (at + n) (put_mid at n N ys) ≡ drop (at + n) N = drop-put_mid at n N ys (at + n) (omega arith) fits long in
    let same : drop 2 (drop (at + n) N) ≡ drop (n + 2) (drop at N) =
    drop-drop 2 (at + n) N ∙ ap (λ m. drop m N) (omega arith) ∙ sym (drop-drop (n + 2) at N) in
    (λ i. low i ++ (zs ++ drop 2 (high i)))
    ∙ append_assoc (take at N) ys (zs ++ drop 2 (drop (at + n) N))
    ∙ ap (λ x. take at N ++ x) (sym (append_assoc ys zs (drop 2 (drop (at + n) N))) ∙ ap (λ x. (ys ++ zs) ++ x) same)

-- the same for a line and its line end, put in between
pub insert-holds : (M N line ys zs : List ℕ) (used at : ℕ) → at ≤ used → used + (length line + 2) ≤ length M → N ≡ paste M (at + length line + 2) (drop at M) (used - at) → ys ≡ line → zs ≡ 13 ∷ 10 ∷ [] → take (used + length line + 2) (put_mid (at + length line) (at + length line + 2 - (at + length line)) (put_mid at (at + length line - at) N ys) zs) ≡ take at (take used M) ++ (ended line ++ drop at (take used M))
insert-holds M N line ys zs used at inside room moved put-line put-end =
    let n = length line in
    let none : at + 0 ≡ at = omega arith in
    let both : length (ended line) ≡ n + 2 = length-append line (13 ∷ 10 ∷ []) in
    let size : at + n - at ≡ n = omega arith in
    let two : at + n + 2 - (at + n) ≡ 2 = omega arith in
    let gap : at + length (ended line) - at ≡ n + 2 = omega arith in
    let end : at + length (ended line) + (used - (at + 0)) ≡ used + n + 2 = omega arith in
    let far : at + length (ended line) ≡ at + n + 2 = omega arith in
    let here : N ≡ paste M (at + length (ended line)) (drop (at + 0) M) (used - (at + 0)) =
    moved ∙ (λ i. paste M (sym far i) (drop (sym none i) M) (used - sym none i)) in
    let long : length N ≡ length M = ap length here ∙ length-paste M (at + length (ended line)) (drop (at + 0) M) (used - (at + 0)) (omega arith) (omega (arith, length-drop (at + 0) M)) in
    (λ i. take (used + n + 2) (put_mid (at + n) (two i) (put_mid at (size i) N ys) zs))
    ∙ ap (take (used + n + 2)) (two-puts at n N ys zs (omega arith) (ap length put-line))
    ∙ (λ i. take (sym end i) (put_mid at (sym gap i) N (ys ++ zs)))
    ∙ splice-holds M N (ended line) (ys ++ zs) used at 0 (omega arith) (omega arith) (omega arith) here (λ i. put-line i ++ put-end i)
    ∙ ap (λ n. take at (take used M) ++ (ended line ++ drop n (take used M))) none

-- a part from the front, as a borrow of it has it
pub front-part : {X : Type 0} (P : List ℕ → X) (F : List ℕ) (used : ℕ) → P (take (used - 0) F) ≡ P (take used F)
front-part P F used = ap (λ k. P (take k F)) (sub-zero used)
