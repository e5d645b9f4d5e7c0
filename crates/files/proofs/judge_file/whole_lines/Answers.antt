use Rattle.std.proofs.Common.{arith}
use Rattle.files.proofs.Counting.{lines-within}
use Rattle.files.proofs.judge_file.whole_lines.Goals as goal

pub overflow_add-found : goal.overflow_add-found
overflow_add-found c = let h = lines-within c.args.bytes.now in let n = c.count_lines-found.ensures.lines in omega arith
