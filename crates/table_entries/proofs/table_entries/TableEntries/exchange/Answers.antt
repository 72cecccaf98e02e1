use Rattle.std.proofs.Common.{sym, ap, subst, ◌∙◌, ◌≢◌, ◌+◌, ◌*◌, ◌<◌, ℕ, length, get_or, pos}
use Rattle.std.specs.Prelude.{OnOk, IfErr}
use Rattle.frac128.specs.Rational.{int}
use Rattle.table_entries.specs.FlatSteps.{FlatFits}
use Rattle.table_entries.specs.Listed.{IsExchangedList}
use Rattle.table_entries.proofs.table_entries.TableEntries.exchange.Goals as goal

pub exchange_wholes-requires-clause-whole : goal.exchange_wholes-requires-clause-whole
exchange_wholes-requires-clause-whole c = sym c.is_whole.ensures.value ∙ c.if-not-is_whole.false

pub go_over-requires : goal.go_over-requires
go_over-requires c = ap (λ v. v.is_whole) (c.exchange_wholes.ensures.kept c.if-exchange_wholes.false) ∙ sym c.is_whole.ensures.value ∙ c.if-not-is_whole.false

pub exchange_fractions-requires-2-clause-size : goal.exchange_fractions-requires-2-clause-size
exchange_fractions-requires-2-clause-size c =
    let same = c.go_over.ensures.list ∙ ap (λ v. v.list) (c.exchange_wholes.ensures.kept c.if-exchange_wholes.false) in
    ap length same ∙ c.requires.size

pub exchange_fractions-requires-2-clause-some : goal.exchange_fractions-requires-2-clause-some
exchange_fractions-requires-2-clause-some c =
    let same = c.go_over.ensures.list ∙ ap (λ v. v.list) (c.exchange_wholes.ensures.kept c.if-exchange_wholes.false) in
    subst (λ xs. get_or xs (c.args.row * c.args.columns + c.args.place) (int (pos 0)) ≢ int (pos 0)) (sym same) c.requires.some

pub returns-then-exchange_wholes-clause-done : goal.returns-then-exchange_wholes-clause-done
returns-then-exchange_wholes-clause-done c = c.exchange_wholes.ensures.done c.if-exchange_wholes.true

pub returns-clause-done : goal.returns-clause-done
returns-clause-done c =
    let same = c.go_over.ensures.list ∙ ap (λ v. v.list) (c.exchange_wholes.ensures.kept c.if-exchange_wholes.false) in
    subst (λ xs. OnOk c.exchange_fractions-2.result (IsExchangedList c.args.columns c.args.row c.args.place xs c.exchange_fractions-2.new.self.list)) same c.exchange_fractions-2.ensures.done

pub returns-clause-within : goal.returns-clause-within
returns-clause-within c = c.exchange_fractions-2.ensures.within

pub returns-clause-earlier : goal.returns-clause-earlier
returns-clause-earlier c =
    let same = c.go_over.ensures.list ∙ ap (λ v. v.list) (c.exchange_wholes.ensures.kept c.if-exchange_wholes.false) in
    subst (λ xs. IfErr c.exchange_fractions-2.result (λ e. (at : ℕ) → at < e → FlatFits c.args.columns c.args.row c.args.place xs at)) same c.exchange_fractions-2.ensures.earlier

pub returns-clause-wide : goal.returns-clause-wide
returns-clause-wide c =
    let same = c.go_over.ensures.list ∙ ap (λ v. v.list) (c.exchange_wholes.ensures.kept c.if-exchange_wholes.false) in
    subst (λ xs. IfErr c.exchange_fractions-2.result (λ e. ¬ (FlatFits c.args.columns c.args.row c.args.place xs e))) same c.exchange_fractions-2.ensures.wide
