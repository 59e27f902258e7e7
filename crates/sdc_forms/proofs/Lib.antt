mod NumberForms
