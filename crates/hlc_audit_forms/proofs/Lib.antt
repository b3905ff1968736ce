mod CommaLists
mod FoundItems
mod Lists
mod SectionLines
