use Rattle.std.proofs.Common.{◌≡◌, ◌∙◌, ap, sym, Some, None}
use Rattle.std.specs.Option.{option_copied}
use Rattle.reply_texts.specs.Texts.{no_model_text}
use Rattle.command_family.proofs.ReplyLemmas.{on_ok, told}
use Rattle.bound_commands.proofs.BoundLemmas.{none-told, some-told}
use Rattle.bound_commands.proofs.bounding.bound_by_numbers.Goals as goal

pub returns-in_default : goal.returns-in_default
returns-in_default c =
    let env = c.args.env.now in
    let none : env.search ≡ None = sym c.search.ensures.search ∙ ap option_copied c.in_default.is in
    told c.extend_from_slice.result c.args.reply.now.items c.extend_from_slice.new.self.items no_model_text c.extend_from_slice.ensures.items c.requires.empty
    (λ is. none-told c.args.which c.args.numbers env.search c.args.named.now c.extend_from_slice.new.self.items none is)

pub returns : goal.returns
returns c =
    let env = c.args.env.now in
    let present : env.search ≡ Some c.in-Some.search.now = sym c.search.ensures.search ∙ ap option_copied c.in-Some.is in
    on_ok c.bound_by_names.result (some-told c.args.which c.args.numbers env.search c.in-Some.search.now c.args.named.now c.bound_by_names.new.reply.items present) c.bound_by_names.ensures
