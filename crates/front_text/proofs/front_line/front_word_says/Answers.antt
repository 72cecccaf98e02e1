use Rattle.std.proofs.Common.{sym, subst, map}
use Rattle.cert_text.specs.Reading.{Says}
use Rattle.front_text.specs.declared.front_line.FrontWord.{FrontWord}
use Rattle.front_text.specs.Lines.{front_word_says}
use Rattle.front_text.proofs.front_line.front_word_says.Goals as goal

pub returns-in-Front-clause-says : goal.returns-in-Front-clause-says
returns-in-Front-clause-says c = subst (λ (w : FrontWord). Says (front_word_says w (map (λ word. word.now) c.args.words.now)) c.header_says.result) (sym c.in-Front.is) c.header_says.ensures.says

pub returns-in-Outcome-clause-says : goal.returns-in-Outcome-clause-says
returns-in-Outcome-clause-says c = subst (λ (w : FrontWord). Says (front_word_says w (map (λ word. word.now) c.args.words.now)) c.outcome_says.result) (sym c.in-Outcome.is) c.outcome_says.ensures.says

pub returns-in-Tree-clause-says : goal.returns-in-Tree-clause-says
returns-in-Tree-clause-says c = subst (λ (w : FrontWord). Says (front_word_says w (map (λ word. word.now) c.args.words.now)) c.tree_says.result) (sym c.in-Tree.is) c.tree_says.ensures.says
