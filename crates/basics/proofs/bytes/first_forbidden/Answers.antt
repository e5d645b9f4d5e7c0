use Rattle.std.proofs.Common.{sym, ◌∙◌}
use Rattle.basics.specs.Bytes.{allowed, anywhere}
use Rattle.basics.proofs.ByteLaws.{all-at, none-of-clean}
use Rattle.basics.proofs.bytes.first_forbidden.Goals as goal

pub returns-then-allows_all : goal.returns-then-allows_all
returns-then-allows_all c =
    let all-pass = sym c.allows_all.ensures ∙ c.if-allows_all.true in
    sym (none-of-clean (anywhere (allowed c.args.class)) c.args.part.now (λ j h. all-at (allowed c.args.class) c.args.part.now j all-pass h))
