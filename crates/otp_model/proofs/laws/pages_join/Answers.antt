use Rattle.otp_model.proofs.PageLemmas.{has_pages, one_list, pages_join}
use Rattle.otp_model.proofs.laws.pages_join.Goals as goal

pub returns-clause-one : goal.returns-clause-one
returns-clause-one c = one_list

pub returns-clause-join : goal.returns-clause-join
returns-clause-join c = pages_join

pub returns-clause-pages : goal.returns-clause-pages
returns-clause-pages c = has_pages
