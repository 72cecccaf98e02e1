-- What contracts of private functions alone cite: no caller has to read it.
pub mod CutTotals
pub mod Followed
pub mod ListedStates
pub mod Lists
pub mod Numbers
pub mod RowTotals
pub mod Slack
