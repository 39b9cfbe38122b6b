use Rattle.flat_model.proofs.MeaningLaws as laws
use Rattle.flat_model.proofs.meaning_law.first_failure_law.Goals as goal

pub returns-clause-reads : goal.returns-clause-reads
returns-clause-reads c = laws.site_reads

pub returns-clause-site : goal.returns-clause-site
returns-clause-site c = laws.first_site

pub returns-clause-equation : goal.returns-clause-equation
returns-clause-equation c = laws.first_equation

pub returns-clause-sites_first : goal.returns-clause-sites_first
returns-clause-sites_first c = laws.sites_first
