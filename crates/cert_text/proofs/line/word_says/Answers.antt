use Rattle.std.proofs.Common.{sym, subst, map}
use Rattle.cert_text.specs.declared.line.LineWord.{LineWord}
use Rattle.cert_text.specs.Lines.{word_says}
use Rattle.cert_text.specs.Reading.{Says}
use Rattle.cert_text.proofs.line.word_says.Goals as goal

pub returns-in-Cert-clause-says : goal.returns-in-Cert-clause-says
returns-in-Cert-clause-says c = subst (λ (w : LineWord). Says (word_says w (map (λ word. word.now) c.args.words.now)) c.cert_says.result) (sym c.in-Cert.is) c.cert_says.ensures.says

pub returns-in-Claim-clause-says : goal.returns-in-Claim-clause-says
returns-in-Claim-clause-says c = subst (λ (w : LineWord). Says (word_says w (map (λ word. word.now) c.args.words.now)) c.claim_says.result) (sym c.in-Claim.is) c.claim_says.ensures.says

pub returns-in-Point-clause-says : goal.returns-in-Point-clause-says
returns-in-Point-clause-says c = subst (λ (w : LineWord). Says (word_says w (map (λ word. word.now) c.args.words.now)) c.point_says.result) (sym c.in-Point.is) c.point_says.ensures.says

pub returns-in-Split-clause-says : goal.returns-in-Split-clause-says
returns-in-Split-clause-says c = subst (λ (w : LineWord). Says (word_says w (map (λ word. word.now) c.args.words.now)) c.split_says.result) (sym c.in-Split.is) c.split_says.ensures.says

pub returns-in-Leaf-clause-says : goal.returns-in-Leaf-clause-says
returns-in-Leaf-clause-says c = subst (λ (w : LineWord). Says (word_says w (map (λ word. word.now) c.args.words.now)) c.leaf_says.result) (sym c.in-Leaf.is) c.leaf_says.ensures.says

pub returns-in-End-clause-says : goal.returns-in-End-clause-says
returns-in-End-clause-says c = subst (λ (w : LineWord). Says (word_says w (map (λ word. word.now) c.args.words.now)) c.end_says.result) (sym c.in-End.is) c.end_says.ensures.says

pub returns-in-Ray-clause-says : goal.returns-in-Ray-clause-says
returns-in-Ray-clause-says c = subst (λ (w : LineWord). Says (word_says w (map (λ word. word.now) c.args.words.now)) c.ray_says.result) (sym c.in-Ray.is) c.ray_says.ensures.says

pub returns-in-Cut-clause-says : goal.returns-in-Cut-clause-says
returns-in-Cut-clause-says c = subst (λ (w : LineWord). Says (word_says w (map (λ word. word.now) c.args.words.now)) c.cut_says.result) (sym c.in-Cut.is) c.cut_says.ensures.says
