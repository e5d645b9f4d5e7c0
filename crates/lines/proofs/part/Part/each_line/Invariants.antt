use Rattle.std.proofs.Common.{◌≡◌, ℕ, ◌+◌, ◌-◌, ◌*◌, length}
use Rattle.std.specs.Slice.Iter.{chunks_exact_rest, chunks_exact_size}
use Rattle.lines.specs.Rules.{text_test}
use Rattle.lines.specs.Judging.{each_line}
use Rattle.lines.proofs.part.Part.each_line.Given as goal

-- the lines that are left, from here, have the answer of all
abbrev pub invariant-loop-k : goal.invariant-loop-k
invariant-loop-k l =
    record {
      size : chunks_exact_size l.k-iterator.iter ≡ 35;
      left : 35 * l.k-iterator.count + length (chunks_exact_rest l.k-iterator.iter) ≡ length l.self.bytes.now;
      same : (n : ℕ) → length l.self.bytes.now ≡ 35 * n → each_line (text_test l.rule) (n - l.k-iterator.count) l.self.field (l.self.place + 35 * l.k-iterator.count) (chunks_exact_rest l.k-iterator.iter) ≡ each_line (text_test l.rule) n l.self.field l.self.place l.self.bytes.now;
    }
