-- Bytes put into memory.
use Rattle.std.proofs.Common.{◌≡◌, ℕ, ◌+◌, ◌-◌, ◌≤◌, List, [], ◌++◌, length, take, drop, sym, ap, ◌∙◌, append_assoc, append-nil, arith, length-append}
use borrow.Rule.Slice.PartMut.{put_mid}
use Rattle.std.proofs.lemmas.List.{take_at, drop_at, drop_all, drop-drop, length-take, length-drop, take_rest}
use Rattle.writing.specs.Sizes.{in_front}

-- a part written behind the first p bytes
module _ (p : ℕ) (out b : List ℕ) (l : p + length b ≤ length out) where
  wide : length (take p out ++ b) ≡ p + length b
  wide = let n = length-append (take p out) b in let m = length-take p out in omega arith

  pub put-exact : (w : ℕ) → w ≡ length b → put_mid p w out b ≡ (take p out ++ b) ++ drop (p + length b) out
  put-exact w e = ap (λ k. take p out ++ (b ++ drop k (drop p out))) e ∙ ap (λ x. take p out ++ (b ++ x)) (drop-drop (length b) p out) ∙ sym (append_assoc (take p out) b (drop (p + length b) out))

  -- the same where the rest of the memory was handed on
  pub put_rest : (last : List ℕ) → last ≡ in_front b (take (length out - p) (drop p out)) → put_mid p (length out - p) out last ≡ (take p out ++ b) ++ drop (p + length b) out
  put_rest last e =
      let d : drop (length out - p) (drop p out) ≡ [] = drop_all (length out - p) (drop p out) (let n = length-drop p out in omega arith) in
      ap (λ x. take p out ++ (last ++ x)) d
      ∙ ap (λ x. take p out ++ x) (append-nil last)
      ∙ ap (λ x. take p out ++ x) (e ∙ ap (in_front b) (take_rest out p) ∙ ap (λ x. b ++ x) (drop-drop (length b) p out))
      ∙ sym (append_assoc (take p out) b (drop (p + length b) out))

  -- what stands in front and behind then
  pub front-then : (new : List ℕ) → new ≡ (take p out ++ b) ++ drop (p + length b) out → take (p + length b) new ≡ take p out ++ b
  front-then new e = ap (take (p + length b)) e ∙ take_at (take p out ++ b) (drop (p + length b) out) (p + length b) wide

  pub behind-then : (new : List ℕ) → new ≡ (take p out ++ b) ++ drop (p + length b) out → drop (p + length b) new ≡ drop (p + length b) out
  behind-then new e = ap (drop (p + length b)) e ∙ drop_at (take p out ++ b) (drop (p + length b) out) (p + length b) wide

-- two parts, one behind the other, in front of the memory
pub front-two : (a b out last : List ℕ) → length a ≡ 2 → 2 + length b ≤ length out → last ≡ in_front b (take (length (a ++ drop 2 out) - 2) (drop 2 (a ++ drop 2 out))) → put_mid 2 (length (a ++ drop 2 out) - 2) (a ++ drop 2 out) last ≡ in_front (a ++ b) out
front-two a b out last two l e =
    let mem : List ℕ = a ++ drop 2 out in
    let n = length-append a (drop 2 out) in
    let m = length-drop 2 out in
    let f : take 2 mem ≡ a = take_at a (drop 2 out) 2 two in
    let d : drop 2 mem ≡ drop 2 out = drop_at a (drop 2 out) 2 two in
    let w : length (a ++ b) ≡ 2 + length b = let k = length-append a b in omega arith in
    put_rest 2 mem b (omega arith) last e
    ∙ ap (λ x. (x ++ b) ++ drop (2 + length b) mem) f
    ∙ ap (λ x. (a ++ b) ++ x) (sym (drop-drop (length b) 2 mem) ∙ ap (drop (length b)) d ∙ drop-drop (length b) 2 out)
    ∙ ap (λ k. (a ++ b) ++ drop k out) (sym w)
