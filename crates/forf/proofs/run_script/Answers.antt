-- What is printed lies within the page; the bytes that were read are the first that the reader had left (Telling of `input`).
use Rattle.std.proofs.Common.{◌+◌, sym, length-take-le}
use Rattle.semantics.specs.Sizes.{script_most}
use Rattle.input.proofs.Telling.{told_of}
use Rattle.forf.specs.Telling.{printed_text}
use Rattle.forf.proofs.Printing.{within, read_back}
use Rattle.forf.proofs.run_script.Goals as goal

pub slice_bounds-page-end : goal.slice_bounds-page-end
slice_bounds-page-end g c = within c.write_page-end.ensures

pub slice_bounds-write_all-end : goal.slice_bounds-write_all-end
slice_bounds-write_all-end g c = sym (length-take-le _ _ (within c.write_page-end.ensures))

pub returns : goal.returns
returns g c =
    told_of c.write_all.result (g.R.Read.remaining c.args.from.now) _ _ c.read_full.new.buf _ c.in_ok-n.n (script_most + 1) printed_text c.read_full.auto.buf c.in_ok-n.ensures.first (read_back c.write_page-end.ensures) c.write_all.ensures.bytes
