pub mod PagesOfEntries
