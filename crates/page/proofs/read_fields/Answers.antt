-- `read_fields` meets its contract.
use mathlib.Core.Path.{◌∙◌, ap}
use Rattle.page.specs.Fields.{shown_message}
use Rattle.page.proofs.Values.{fields, type_at_most_14}
use borrow.Author.Rules.{rules}
use native.Mathlib.Omega.{arith}
use Rattle.page.proofs.read_fields.Goals as goal

pub read_message-message-requires : goal.read_message-message-requires
read_message-message-requires c = (search rules, omega (arith, c.from.ensures, c.type_length-size.ensures, type_at_most_14 c.digit-kind.result))

pub returns : goal.returns
returns c =
    let l = c.args.line.now in
    fields l c.digit-kind.ensures.0 c.type_length-size.ensures c.read_number-first.ensures.0 c.read_number-count.ensures.0 (c.read_message-message.ensures ∙ ap (shown_message c.digit-kind.result l) c.from.ensures)
