use Rattle.std.proofs.Common.{◌≡◌, ℕ, ◌+◌, ◌≤◌, cond, List, [], ◌∷◌, ◌++◌, map, get_or, is_ok, sym, refl, ap, ◌∙◌, arith, take_all}
use Rattle.std.proofs.lemmas.List.{map_push, map_more}
use Rattle.changes.specs.States.{State, Promise}
use Rattle.changes.specs.Calls.{asked}
use Rattle.drafts.specs.Drafts.{state}
use Rattle.history.specs.Acts.{Act}
use Rattle.history.specs.Runs.{Step, called}
use Rattle.history.proofs.Theorem.{law, run_more}
use Rattle.runs.specs.declared.call.Call.{Call}
use Rattle.runs.specs.declared.call.Call.TheVariants.{Import}
use Rattle.runs.specs.Calls.{act_of}
use Rattle.runs.specs.Replays.{new_draft}
use Rattle.runs.proofs.Counting.{accepted-more}
use Rattle.runs.proofs.replay.replay.Goals as goal
use Rattle.runs.proofs.replay.replay.Goals.{then-is_ok, else-is_ok}

pub loop-call-preserved : goal.loop-call-preserved
loop-call-preserved g c =
    let h = c.loop-call.invariant in
    let few = h.0 in
    let ps : List Step = h.1.0 in
    let t : State = state c.loop-call.draft c.loop-call.file c.loop-call.rows c.loop-call.kept in
    let u : State = state c.play.new.draft c.play.new.file c.play.new.rows c.play.new.kept in
    let s : State = state new_draft c.args.file.now c.args.rows.now c.args.kept.now in
    let ls = g.S.LayoutSet.meaning c.args.set.now in
    let calls : List Call = c.args.calls.now in
    let i : ℕ = c.loop-call.call-index in
    let d : Call = Import (record { ref_ptr = (0, 0); now = [] }) in
    let a : Act = act_of (get_or calls i d) in
    let p : Step = record { act = a; answer = c.play.result } in
    let kept : Promise (asked (called ls a) t) t u c.play.result = c.play.ensures in
    let one : c.if-is_ok.accepted ≡ c.loop-call.accepted + cond (is_ok c.play.result) 1 0 =
    elim c.if-is_ok.branch [
      | then-is_ok w ↦ w.accepted-is ∙ ap (λ b. c.loop-call.accepted + cond b 1 0) (sym w.if-is_ok.true ∙ c.is_ok.ensures.value)
      | else-is_ok w ↦ w.accepted-is ∙ omega arith ∙ ap (λ b. c.loop-call.accepted + cond b 1 0) (sym w.if-is_ok.false ∙ c.is_ok.ensures.value)
    ] in
    let more : c.if-is_ok.accepted ≤ i + 1 =
    elim c.if-is_ok.branch [ then-is_ok w ↦ omega (arith, w.accepted-is) | else-is_ok w ↦ omega (arith, w.accepted-is) ] in (
      more,
      (
        ps ++ p ∷ [],
        map_push (λ x. x.act) ps p ∙ ap (λ x. x ++ a ∷ []) h.1.1 ∙ sym (map_more act_of calls i d c.loop-call-test.true),
        run_more ls s t u ps p h.1.2 kept,
        one ∙ ap (λ n. n + cond (is_ok c.play.result) 1 0) h.1.3 ∙ sym (accepted-more ps p),
      ),
    )

pub returns : goal.returns
returns g c =
    let h = c.loop-call.invariant.1 in
    let s : State = state new_draft c.args.file.now c.args.rows.now c.args.kept.now in
    let t : State = state c.loop-call.draft c.loop-call.file c.loop-call.rows c.loop-call.kept in
    let every = law (g.S.LayoutSet.meaning c.args.set.now) (g.met.S.LayoutSet.lawful c.args.set.now) in
    record {
      plays_the_calls_in_their_order = record {
        steps = h.0;
        in_order = h.1 ∙ ap (map act_of) (take_all c.loop-call.call-index c.args.calls.now c.loop-call-test.false);
        run = h.2;
        count = h.3;
        law = every s t h.0 (refl, refl, refl) h.2;
      };
      used_bytes_are_the_last_file = λ x y ps new run. (every x y ps new run).last;
      they_are_the_writing_of_one_list_of_records = λ x y ps new run. (every x y ps new run).writing;
      amounts_are_what_came_in_less_what_went_out = λ x y ps new run. (every x y ps new run).balance;
      undo_leads_back_through_every_file = λ x y ps new run. (every x y ps new run).back;
    }
