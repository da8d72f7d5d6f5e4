-- `report::Text::text` meets its contract: where the end lies in the buffer, the text is copied there.
use mathlib.Core.Path.{◌≡◌, refl}
use Prim.Native.Nat.{◌+◌, ◌-◌, ◌%◌, ◌^◌}
use native.Mathlib.Omega.{arith}
use lib.ListN.{length}
use Rattle.report.proofs.Writing.{copied}
use Rattle.report.proofs.Text.text.Goals.{then-at-end+then-end-self, else-at-end, else-at-end-via-then-at-end+else-end-self, else-at-end-via-else-at-end}
use Rattle.report.proofs.Text.text.Goals as goal

pub returns : goal.returns
returns c =
    let at = c.args.self.now.len in
    let text = c.args.text.now in
    let old = c.args.self.now.out.now in
    elim c.if-at-end.branch [
      | then-at-end+then-end-self w ↦ record {
        same_reference = rw w.self-is refl;
        counted = λ l. omega arith;
        written = λ l f.
            let n : (at + length text) % 2 ^ 64 - at ≡ length text = omega arith in
            rw (w.self-is, w.copy_text.ensures, n) (copied text old at f);
      }
      | else-at-end w ↦ record {
        same_reference = rw w.self-is refl;
        counted = λ l. omega arith;
        written = λ l f.
            elim w.else-at-end.branch [
              | else-at-end-via-then-at-end+else-end-self v ↦ absurd (omega arith)
              | else-at-end-via-else-at-end v ↦ absurd (omega arith)
            ];
      }
    ]
