use Rattle.std.proofs.Common.{◌≡◌, ◌+◌, ◌-◌, [], ◌∷◌, ◌++◌, length, take, drop, refl, ap, ◌∙◌, subst, arith, length-append}
use borrow.Rule.Slice.PartMut.{put_mid}
use Rattle.std.proofs.lemmas.List.{take_rest, length-drop}
use Rattle.layouts.specs.Layouts.{layout_at}
use Rattle.values.specs.Forms.{shape_of}
use Rattle.values.specs.Writing.{field_step, field_steps}
use Rattle.writing.specs.Sizes.{bytes_of, size_of, in_front}
use Rattle.writing.proofs.PutLaws.{Sofar, field_room, field_put}
use Rattle.writing.proofs.put.put_fields.Goals as goal

pub put_field-size-requires-clause-room : goal.put_field-size-requires-clause-room
put_field-size-requires-clause-room g c =
    let l = layout_at (g.S.LayoutSet.meaning c.args.set.now) c.args.j in
    let bytes = c.args.values.now.bytes.now in
    let rs = c.args.values.now.rows.now in
    let us = c.skip.result.rows.now in
    let x = shape_of c.from.result in
    let out = c.loop-f.out in
    let p = c.loop-f.place in
    let room = field_room l bytes rs c.args.out.now out (length c.loop-f.yielded + 1) c.loop-f.used p c.loop-f.f-iterator c.in-Some.f c.next.new.self x us c.in-Some.ensures.steps c.from.ensures c.skip.ensures.rows c.requires.suits c.loop-f.invariant.sofar c.requires.room in
    let w = ap length (take_rest out p) ∙ length-drop p out in
    let same = ap (λ b. length (bytes_of (field_step x b us))) c.skip.ensures.bytes in
    omega arith

pub loop-f-preserved : goal.loop-f-preserved
loop-f-preserved g c =
    let l = layout_at (g.S.LayoutSet.meaning c.args.set.now) c.args.j in
    let bytes = c.args.values.now.bytes.now in
    let rs = c.args.values.now.rows.now in
    let us = c.skip.result.rows.now in
    let x = shape_of c.from.result in
    let out = c.loop-f.out in
    let p = c.loop-f.place in
    let i = length c.loop-f.yielded + 1 in
    let put = c.put_field-size.ensures.out ∙ ap (λ b. in_front (bytes_of (field_step x b us)) (take (length out - p) (drop p out))) c.skip.ensures.bytes in
    let size = c.put_field-size.ensures.size ∙ ap (λ b. size_of (length us) (field_step x b us)) c.skip.ensures.bytes in
    let z = c.put_field-size.result in
    let m = field_put l bytes rs c.args.out.now out i c.loop-f.used p c.loop-f.f-iterator c.in-Some.f c.next.new.self x us c.in-Some.ensures.steps c.from.ensures c.skip.ensures.rows c.requires.suits c.loop-f.invariant.sofar _ c.put_field-size.new.out z c.requires.room c.loop-f.invariant.within put size refl in
    let one : i + 1 ≡ length (c.loop-f.yielded ++ (c.in-Some.f ∷ [])) + 1 = omega (arith, length-append c.loop-f.yielded (c.in-Some.f ∷ [])) in
    record {
      within = m.1;
      sofar = subst (λ k. Sofar (field_steps 1 l bytes rs) c.args.out.now (put_mid p (length out - p) out c.put_field-size.new.out) (p + z.bytes) (field_steps k c.next.new.self bytes (drop (c.loop-f.used + z.rows) rs))) one m.2;
    }
