mod CellLemmas
mod LineLemmas
mod ReportLemmas
mod SiteLemmas
mod WordLemmas
